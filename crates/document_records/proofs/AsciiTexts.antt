-- Identifiers of documents and names of applications are ASCII.
use Rattle.std.proofs.Common.{◌≡◌, ℕ, ◌<◌, ◌%◌, ◌/◌, ◌^◌, List, [], ◌∷◌, map, true, arith}
use Rattle.std.specs.Prelude.{IsUtf8}
use Rattle.std.specs.Char.{digit_char}
use Rattle.std.specs.List.{list_all}
use Rattle.std.specs.Str.{IsAscii}
use Rattle.std.proofs.lemmas.Bool.Decides.{nat_tests}
use Rattle.std.proofs.lemmas.Str.{IsUtf8-from_ascii}
use Rattle.std.proofs.lemmas.Str.Ascii.{IsAscii-nil, IsAscii-cons}
use Rattle.portal_base.specs.Names.{doc_text, is_app_name, is_name_byte}

-- ---- names

low-name_byte : (b : ℕ) → is_name_byte b ≡ true → b < 128
low-name_byte b h = grind (arith, nat_tests)

ascii-bytes : (bs : List ℕ) → list_all is_name_byte bs ≡ true → IsAscii bs
ascii-bytes [] h = IsAscii-nil
ascii-bytes (b ∷ bs) h =
    let first : is_name_byte b ≡ true = grind arith in
    let rest : list_all is_name_byte bs ≡ true = grind arith in
    IsAscii-cons b bs (low-name_byte b first) (ascii-bytes bs rest)

pub utf8-name : (app : List ℕ) → is_app_name app ≡ true → IsUtf8 app
unfolding is_app_name
utf8-name app h =
    let bytes : list_all is_name_byte app ≡ true = grind arith in
    IsUtf8-from_ascii app (ascii-bytes app bytes)

-- ---- identifiers

low-digit : (n : ℕ) → n < 16 → digit_char n < 128
low-digit n h = grind (arith, nat_tests)

ascii-digits : (n : ℕ) (places : List ℕ) → IsAscii (map (λ k. digit_char (n / 16 ^ k % 16)) places)
ascii-digits n [] = IsAscii-nil
ascii-digits n (k ∷ ks) =
    let small : n / 16 ^ k % 16 < 16 = omega arith in
    IsAscii-cons (digit_char (n / 16 ^ k % 16)) (map (λ j. digit_char (n / 16 ^ j % 16)) ks) (low-digit (n / 16 ^ k % 16) small) (ascii-digits n ks)

pub utf8-id : (n : ℕ) → IsUtf8 (doc_text n)
unfolding doc_text
utf8-id n = IsUtf8-from_ascii (doc_text n) (ascii-digits n (7 ∷ 6 ∷ 5 ∷ 4 ∷ 3 ∷ 2 ∷ 1 ∷ 0 ∷ []))
