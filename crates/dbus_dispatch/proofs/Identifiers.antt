-- Identifiers of documents are ASCII, and have no zero byte.
use Rattle.std.proofs.Common.{◌≡◌, ℕ, ◌<◌, ◌%◌, ◌/◌, ◌^◌, List, [], ◌∷◌, map, arith}
use Rattle.std.specs.Prelude.{All}
use Rattle.std.specs.Char.{digit_char}
use Rattle.std.proofs.lemmas.Bool.Decides.{nat_tests}
use Rattle.std.proofs.lemmas.List.Elements.{All-nil, All-cons, All-weaker}
use Rattle.std.proofs.lemmas.Str.{IsUtf8-from_ascii}
use Rattle.std.proofs.lemmas.Str.Ascii.{IsAscii-from_all}
use Rattle.portal_base.specs.Names.{doc_text}
use Rattle.dbus_values.specs.Values.{IsText}

abbrev Plain : ℕ → Type 0
Plain b = (0 < b) × (b < 128)

plain_digit : (n : ℕ) → n < 16 → Plain (digit_char n)
plain_digit n h = (grind (arith, nat_tests), grind (arith, nat_tests))

plain_digits : (n : ℕ) (places : List ℕ) → All Plain (map (λ k. digit_char (n / 16 ^ k % 16)) places)
plain_digits n [] = All-nil Plain
plain_digits n (k ∷ ks) =
    let small : n / 16 ^ k % 16 < 16 = omega arith in
    All-cons Plain (digit_char (n / 16 ^ k % 16)) (map (λ j. digit_char (n / 16 ^ j % 16)) ks) (plain_digit (n / 16 ^ k % 16) small) (plain_digits n ks)

plain_text : (text : List ℕ) → All Plain text → IsText text
plain_text text h = (
  IsUtf8-from_ascii text (IsAscii-from_all text (All-weaker Plain (λ b. b < 128) (λ b p. p.1) text h)),
  All-weaker Plain (λ b. b ≡ 0 → ⊥) (λ b p e. omega (arith, p.0, e)) text h,
)

pub identifier_text : (n : ℕ) → IsText (doc_text n)
unfolding doc_text
identifier_text n = plain_text (doc_text n) (plain_digits n (7 ∷ 6 ∷ 5 ∷ 4 ∷ 3 ∷ 2 ∷ 1 ∷ 0 ∷ []))
