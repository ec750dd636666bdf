-- Identifiers of documents are texts.
use Rattle.std.proofs.Common.{ℕ, ◌<◌, ◌%◌, ◌/◌, ◌^◌, List, [], ◌∷◌, map, arith}
use Rattle.std.specs.Prelude.{All, IsUtf8}
use Rattle.std.specs.Char.{digit_char}
use Rattle.std.proofs.lemmas.Bool.Decides.{nat_tests}
use Rattle.std.proofs.lemmas.List.Elements.{All-nil, All-cons}
use Rattle.std.proofs.lemmas.Str.{IsUtf8-from_ascii}
use Rattle.std.proofs.lemmas.Str.Ascii.{IsAscii-from_all}
use Rattle.portal_base.specs.Names.{doc_text}

plain_digit : (n : ℕ) → n < 16 → digit_char n < 128
plain_digit n h = grind (arith, nat_tests)

plain_digits : (n : ℕ) (places : List ℕ) → All (λ b. b < 128) (map (λ k. digit_char (n / 16 ^ k % 16)) places)
plain_digits n [] = All-nil (λ b. b < 128)
plain_digits n (k ∷ ks) =
    let small : n / 16 ^ k % 16 < 16 = omega arith in
    All-cons (λ b. b < 128) (digit_char (n / 16 ^ k % 16)) (map (λ j. digit_char (n / 16 ^ j % 16)) ks) (plain_digit (n / 16 ^ k % 16) small) (plain_digits n ks)

pub identifier_ascii : (n : ℕ) → All (λ b. b < 128) (doc_text n)
unfolding doc_text
identifier_ascii n = plain_digits n (7 ∷ 6 ∷ 5 ∷ 4 ∷ 3 ∷ 2 ∷ 1 ∷ 0 ∷ [])

pub identifier_text : (n : ℕ) → IsUtf8 (doc_text n)
identifier_text n = IsUtf8-from_ascii (doc_text n) (IsAscii-from_all (doc_text n) (identifier_ascii n))
