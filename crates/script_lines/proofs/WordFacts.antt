-- Facts on words.
use Rattle.std.proofs.Common.{◌≡◌, ◌≢◌, ℕ, ◌+◌, ◌%◌, ◌^◌, ◌<◌, ◌≤◌, ◌&&◌, ◌⊎◌, inl, inr, Bool, true, false, List, [], ◌∷◌, length, refl, sym, ap, eqb, ◌∙◌, arith, zero, suc, get_or}
use Rattle.std.specs.Prelude.{codes, nat_eq}
use Rattle.std.specs.Cmp.Lexicographic.{pointwise}
use Rattle.std.specs.Char.{is_ascii_digit}
use Rattle.std.specs.Fmt.{decimal}
use Rattle.std.specs.List.{list_all}
use Rattle.std.specs.Prelude.{Ok, Err}
use Rattle.std.proofs.lemmas.Bool.{cases_lt, and_parts, eqb-true}
use Rattle.std.proofs.lemmas.Bool.Decides.{nat_tests}
use Rattle.std.specs.Prelude.{not, ◌==◌}
use Rattle.std.proofs.Common.{lit<, ◌≢◌}
use Rattle.std.proofs.lemmas.Fmt.{decimal_by_steps, decimal_digit, decimal_injective, first_decimal, decimal_nonempty, decimal-digits_value, parse-decimal, IsAscii-decimal}
use Rattle.std.proofs.lemmas.Grind.{get_or_default_zero}
use Rattle.std.proofs.lemmas.List.{get_or_past}
use Rattle.std.proofs.lemmas.List.Folds.{list_all-append}
use Rattle.std.proofs.lemmas.List.Sums.{list_all-from_AllPass}
use Rattle.std.specs.Str.{IsUtf8, IsAscii, all_ascii_digits}
use Rattle.std.specs.Str.Parse.{digits_value, ParsesUnsigned}
use Rattle.std.proofs.lemmas.Str.{IsUtf8-from_ascii}
use Rattle.std.proofs.lemmas.Str.Ascii.{IsAscii-nil, IsAscii-cons}
use Rattle.std.proofs.lemmas.Str.Parse.{IsNumeralModel, numerals_by_value, tells_all_ascii_digits, parse_digits}
use Rattle.script_lines.specs.Reading.{are_digits, leads_with_zero}
use Rattle.portal_base.specs.Names.{has_app_form, is_app_name, is_name_byte, is_nothing_or_dots}
use Rattle.std.proofs.lemmas.List.Elements.{All-nil, All-cons}
use Rattle.script_lines.specs.Reading.{IsFree, IsSeat}
use Rattle.script_lines.proofs.TextFacts.{free_from}
use Rattle.hex.specs.Hex.{is_hex_digit, IsBytes, decode_of, encode_lower, encode_with}
use Rattle.hex.proofs.HexLemmas.{decode_of-encode_lower, decode_of-ok}
use Rattle.script_lines.specs.Lines.{hex_text, AreBytes}
use Rattle.record_keeper.proofs.SameTexts.{same_from_test}

and_false : (b : Bool) → (b && false) ≡ false
and_false true = refl
and_false false = refl

no_true : (b : Bool) → (b ≡ true → ⊥) → b ≡ false
no_true true h = absurd (h refl)
no_true false h = refl

-- ---- bytes

pub bytes_at : (bytes : List ℕ) → AreBytes bytes → IsBytes bytes
bytes_at bytes h i = elim (cases_lt i (length bytes)) [
  | inl inside ↦ h i 0 inside
  | inr past ↦ rw (get_or_past bytes i 0 past) (lit< tt)
]

pub hex_reads : (word bytes : List ℕ) → AreBytes bytes → (word ≢ codes "-") → word ≡ hex_text bytes
    → (decode_of word ≡ Ok bytes) × (bytes ≢ []) × (encode_lower bytes ≡ word)
hex_reads word [] all other same = absurd (other same)
hex_reads word (b ∷ bs) all other same =
    (rw same (decode_of-encode_lower (b ∷ bs) (bytes_at (b ∷ bs) all)), (λ e. cc e), sym same)

pub are_bytes : (word bytes : List ℕ) → decode_of word ≡ Ok bytes → AreBytes bytes
are_bytes word bytes h = λ k d inside.
    let all = (decode_of-ok word bytes h).3 k in
    rw (get_or_default_zero bytes k d inside) all

-- digits that are some are the text of their bytes
pub hex_of_some : (word bytes : List ℕ) → (word ≢ []) → encode_lower bytes ≡ word → word ≡ hex_text bytes
unfolding encode_with
hex_of_some word [] h e = absurd (h (sym e))
hex_of_some word (b ∷ bs) h e = sym e

pub hex_some : (bytes : List ℕ) → hex_text bytes ≡ [] → ⊥
unfolding encode_with
hex_some [] h = cc h
hex_some (b ∷ bs) h = cc h

-- the text of bytes has neither a separator that is no digit, nor one that is no dash
pub hex_free : (s : ℕ) → is_hex_digit s ≡ false → (45 == s) ≡ false → (bytes : List ℕ) → AreBytes bytes → IsFree s (hex_text bytes)
hex_free s other dash [] h = All-cons (λ b. (b == s) ≡ false) 45 [] dash (All-nil (λ b. (b == s) ≡ false))
hex_free s other dash (b ∷ bs) h =
    let read = decode_of-encode_lower (b ∷ bs) (bytes_at (b ∷ bs) h) in
    free_from is_hex_digit s other (hex_text (b ∷ bs)) (list_all-from_AllPass is_hex_digit (hex_text (b ∷ bs)) (decode_of-ok (hex_text (b ∷ bs)) (b ∷ bs) read).1)

-- ---- numbers

digit_is : (d : ℕ) → d < 10 → list_all is_ascii_digit ((48 + d) ∷ []) ≡ true
digit_is d h = grind (arith, nat_tests)

pub all_digits : (n : ℕ) → n < 2 ^ 64 → list_all is_ascii_digit (decimal n) ≡ true
all_digits n h = decimal_by_steps (λ m ds. list_all is_ascii_digit ds ≡ true) (λ m small. digit_is m small) (λ m ds large front. rw (list_all-append, front) (digit_is (m % 10) (omega arith))) n h

eqb_yes : (n : ℕ) → eqb n n ≡ true
eqb_yes n = grind (arith, nat_tests)

pub same_refl : (a : List ℕ) → pointwise nat_eq a a ≡ true
same_refl [] = refl
same_refl (x ∷ xs) = rw (eqb_yes x, same_refl xs) refl

-- texts of which the test says that they differ
pub differ : (a b : List ℕ) → pointwise nat_eq a b ≡ false → a ≡ b → ⊥
differ a b test e =
    let yes : pointwise nat_eq a b ≡ true = rw (← e) (same_refl a) in
    absurd (cc (yes, test))

-- more than one byte, and a zero first
pub leads_long : (word : List ℕ) → 1 < length word → leads_with_zero word ≡ (get_or word 0 0 == 48)
leads_long [] h = absurd (omega arith)
leads_long (b ∷ []) h = absurd (omega arith)
leads_long (b ∷ c ∷ bs) h = refl

pub leads_short : (word : List ℕ) → length word ≤ 1 → leads_with_zero word ≡ false
leads_short [] h = refl
leads_short (b ∷ []) h = refl
leads_short (b ∷ c ∷ bs) h = absurd (omega arith)

not_none : (n : ℕ) → (suc n == 0) ≡ false
not_none n = grind (arith, nat_tests)

-- the digits of a number have no leading zero
pub digits_of_number : (n : ℕ) → n < 2 ^ 64 → are_digits (decimal n) ≡ true
digits_of_number n h = by (decimal n) (decimal_nonempty n h) (all_digits n h) (λ long. leading n h long)
  where
    leading : (n : ℕ) → n < 2 ^ 64 → 1 < length (decimal n) → get_or (decimal n) 0 0 ≢ 48
    leading zero h long e = absurd (omega (arith, ap length (decimal_digit 0 (lit< tt))))
    leading (suc n) h long e = let first = first_decimal (suc n) (omega arith) h in absurd (omega arith)

    by : (ds : List ℕ) → 0 < length ds → list_all is_ascii_digit ds ≡ true → (1 < length ds → get_or ds 0 0 ≢ 48) → are_digits ds ≡ true
    by [] some all first = absurd (omega arith)
    by (d ∷ []) some all first = all
    by (d ∷ e ∷ ds) some all first =
        let other : (d == 48) ≡ false = no_true (d == 48) (λ same. first (omega arith) (eqb-true d 48 same)) in
        rw (not_none (suc (length ds)), other) all

own : IsNumeralModel (λ ds. all_ascii_digits ds ≡ true) (digits_value 10)
own = numerals_by_value _ tells_all_ascii_digits

-- what is known of digits without a leading zero
pub record DigitWord (word : List ℕ) : Type 0 where
  pub some : 0 < length word
  pub all : list_all is_ascii_digit word ≡ true
  pub single : get_or word 0 0 ≡ 48 → length word ≡ 1

pub digit_word : (word : List ℕ) → are_digits word ≡ true → DigitWord word
digit_word [] h = absurd (cc h)
digit_word (b ∷ []) h = record { some = omega arith; all = h; single = λ e. refl }
digit_word (b ∷ c ∷ bs) h = by (b == 48) refl (rw (not_none (suc (length bs))) at h)
  where
    by : (t : Bool) → (b == 48) ≡ t → (not t && list_all is_ascii_digit (b ∷ c ∷ bs)) ≡ true → DigitWord (b ∷ c ∷ bs)
    by true e h = absurd (cc h)
    by false e h = record { some = omega arith; all = h; single = λ same. absurd (grind (arith, nat_tests)) }

pub not_differ : (a b : List ℕ) → true ≡ not (pointwise nat_eq a b) → a ≡ b → ⊥
not_differ a b test e =
    let yes : pointwise nat_eq a b ≡ true = rw (← e) (same_refl a) in
    let t = rw yes at test in
    cc t

pub not_other : (a b : List ℕ) → false ≡ not (pointwise nat_eq a b) → a ≡ b
not_other a b test = same_from_test a b (back (pointwise nat_eq a b) test)
  where
    back : (t : Bool) → false ≡ not t → t ≡ true
    back true h = refl
    back false h = cc h

pub not_empty : (a : List ℕ) → (length a == 0) ≡ false → a ≡ [] → ⊥
not_empty [] h e = cc h
not_empty (x ∷ xs) h e = cc e

pub is_empty : (a : List ℕ) → (length a == 0) ≡ true → a ≡ []
is_empty [] h = refl
is_empty (x ∷ xs) h = absurd (grind (arith, nat_tests))

-- ---- numbers that are read

same_digits : (ds : List ℕ) → list_all is_ascii_digit ds ≡ all_ascii_digits ds
same_digits [] = refl
same_digits (d ∷ ds) = ap (λ (b : Bool). is_ascii_digit d && b) (same_digits ds)

pub number_read : (E : Type 0) (word : List ℕ) (n : ℕ) → are_digits word ≡ true → ParsesUnsigned {E = E} 64 10 word (Ok n) → word ≡ decimal n
number_read E word n h parsed =
    let w = digit_word word h in
    let all : all_ascii_digits word ≡ true = sym (same_digits word) ∙ w.all in
    let o = parse_digits own {E = E} 64 word (Ok n) parsed all in
    sym (decimal-digits_value own word all w.some w.single o.0.1) ∙ ap decimal (sym o.1)

pub number_fits : (E : Type 0) (word : List ℕ) (n : ℕ) → ParsesUnsigned {E = E} 64 10 word (Ok n) → n < 2 ^ 64
number_fits E word n parsed = let fits = parsed.0.1 in let same = parsed.1 in omega arith

pub no_number : {E : Type 0} (word : List ℕ) (e : E) → ParsesUnsigned {E = E} 64 10 word (Err e) → (n : ℕ) → n < 2 ^ 64 → word ≢ decimal n
no_number word e parsed n fits same = let r = parse-decimal 64 n word (Err e) fits fits same parsed in cc r

pub no_text : (word : List ℕ) → ¬ (IsUtf8 word) → (n : ℕ) → n < 2 ^ 64 → word ≢ decimal n
no_text word other n fits same = other (rw same (IsUtf8-from_ascii (decimal n) (IsAscii-decimal n fits)))

pub no_digits : (word : List ℕ) → are_digits word ≡ false → (n : ℕ) → n < 2 ^ 64 → word ≢ decimal n
no_digits word other n fits same = let yes = digits_of_number n fits in let no = rw same at other in cc (yes, no)

-- ---- names

name_byte : (b : ℕ) → is_name_byte b ≡ true → b < 128
name_byte b h = grind (arith, nat_tests)

name_ascii : (t : List ℕ) → list_all is_name_byte t ≡ true → IsAscii t
name_ascii [] h = IsAscii-nil
name_ascii (b ∷ bs) h =
    let parts = and_parts (is_name_byte b) (list_all is_name_byte bs) h in
    IsAscii-cons b bs (name_byte b parts.0) (name_ascii bs parts.1)

pub name_utf8 : (t : List ℕ) → is_app_name t ≡ true → IsUtf8 t
unfolding is_app_name
name_utf8 t h =
    let form = and_parts (has_app_form t) _ h in
    let bytes = and_parts (list_all is_name_byte t) (not (is_nothing_or_dots t)) form.0 in
    IsUtf8-from_ascii t (name_ascii t bytes.0)

pub no_name : (t : List ℕ) → ¬ (IsUtf8 t) → is_app_name t ≡ false
no_name t other = no_true (is_app_name t) (λ name. other (name_utf8 t name))

-- ---- numbers of connections

pub no_seat_of : (word : List ℕ) (n : ℕ) → n < 2 ^ 64 → word ≡ decimal n → (n ≡ 0) ⊎ (65535 < n) → (seat : ℕ) → IsSeat word seat → ⊥
no_seat_of word n fits same out seat is =
    let low = is.low in
    let high = is.high in
    let this : n ≡ seat = decimal_injective n seat fits (omega arith) (sym same ∙ is.same) in
    elim out [ inl none ↦ absurd (omega arith) | inr much ↦ absurd (omega arith) ]

pub no_seat_text : (word : List ℕ) → ((n : ℕ) → n < 2 ^ 64 → word ≢ decimal n) → (seat : ℕ) → IsSeat word seat → ⊥
no_seat_text word none seat is = let high = is.high in none seat (omega arith) is.same

pub no_call : (call n : ℕ) → call < 2 ^ 64 → n < 2 ^ 64 → decimal call ≡ decimal n → call ≡ 0 → 1 ≤ n → ⊥
no_call call n fits small same none some = let this = decimal_injective call n fits small same in absurd (omega arith)
