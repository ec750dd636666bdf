-- Words that are numbers.
use Rattle.std.proofs.Common.{◌≡◌, ◌≢◌, ℕ, ◌+◌, ◌%◌, ◌^◌, ◌<◌, ◌≤◌, ◌&&◌, Bool, true, false, List, [], ◌∷◌, length, refl, sym, ap, ◌∙◌, arith, zero, suc, get_or, lit<}
use Rattle.std.specs.Prelude.{Ok, Err, Option, Some, not, ◌==◌}
use Rattle.std.specs.Char.{is_ascii_digit}
use Rattle.std.specs.Fmt.{decimal}
use Rattle.std.specs.List.{list_all}
use Rattle.std.specs.Str.{all_ascii_digits}
use Rattle.std.specs.Str.Parse.{digits_value, ParsesUnsigned}
use Rattle.std.proofs.lemmas.Bool.{eqb-true}
use Rattle.std.proofs.lemmas.Bool.Decides.{nat_tests}
use Rattle.std.proofs.lemmas.Fmt.{decimal_by_steps, decimal_digit, decimal_injective, first_decimal, decimal_nonempty, decimal-digits_value, parse-decimal}
use Rattle.std.proofs.lemmas.List.Folds.{list_all-append}
use Rattle.std.proofs.lemmas.Str.Parse.{IsNumeralModel, numerals_by_value, tells_all_ascii_digits, parse_digits}
use Rattle.serve_words.specs.Digits.{are_digits_in, leads_with_zero_in}

no_true : (b : Bool) → (b ≡ true → ⊥) → b ≡ false
no_true true h = absurd (h refl)
no_true false h = refl

digit_is : (d : ℕ) → d < 10 → list_all is_ascii_digit ((48 + d) ∷ []) ≡ true
digit_is d h = grind (arith, nat_tests)

all_digits : (n : ℕ) → n < 2 ^ 64 → list_all is_ascii_digit (decimal n) ≡ true
all_digits n h = decimal_by_steps (λ m ds. list_all is_ascii_digit ds ≡ true) (λ m small. digit_is m small) (λ m ds large front. rw (list_all-append, front) (digit_is (m % 10) (omega arith))) n h

-- more than one byte, and a zero first
pub leads_long : (word : List ℕ) → 1 < length word → leads_with_zero_in word ≡ (get_or word 0 0 == 48)
leads_long [] h = absurd (omega arith)
leads_long (b ∷ []) h = absurd (omega arith)
leads_long (b ∷ c ∷ bs) h = refl

pub leads_short : (word : List ℕ) → length word ≤ 1 → leads_with_zero_in word ≡ false
leads_short [] h = refl
leads_short (b ∷ []) h = refl
leads_short (b ∷ c ∷ bs) h = absurd (omega arith)

not_none : (n : ℕ) → (suc n == 0) ≡ false
not_none n = grind (arith, nat_tests)

-- the digits of a number have no leading zero
digits_of_number : (n : ℕ) → n < 2 ^ 64 → are_digits_in (decimal n) ≡ true
digits_of_number n h = by (decimal n) (decimal_nonempty n h) (all_digits n h) (λ long. leading n h long)
  where
    leading : (n : ℕ) → n < 2 ^ 64 → 1 < length (decimal n) → get_or (decimal n) 0 0 ≢ 48
    leading zero h long e = absurd (omega (arith, ap length (decimal_digit 0 (lit< tt))))
    leading (suc n) h long e = let first = first_decimal (suc n) (omega arith) h in absurd (omega arith)

    by : (ds : List ℕ) → 0 < length ds → list_all is_ascii_digit ds ≡ true → (1 < length ds → get_or ds 0 0 ≢ 48) → are_digits_in ds ≡ true
    by [] some all first = absurd (omega arith)
    by (d ∷ []) some all first = all
    by (d ∷ e ∷ ds) some all first =
        let other : (d == 48) ≡ false = no_true (d == 48) (λ same. first (omega arith) (eqb-true d 48 same)) in
        rw (not_none (suc (length ds)), other) all

own : IsNumeralModel (λ ds. all_ascii_digits ds ≡ true) (digits_value 10)
own = numerals_by_value _ tells_all_ascii_digits

-- what is known of digits without a leading zero
record DigitWord (word : List ℕ) : Type 0 where
  pub some : 0 < length word
  pub all : list_all is_ascii_digit word ≡ true
  pub single : get_or word 0 0 ≡ 48 → length word ≡ 1

digit_word : (word : List ℕ) → are_digits_in word ≡ true → DigitWord word
digit_word [] h = absurd (cc h)
digit_word (b ∷ []) h = record { some = omega arith; all = h; single = λ e. refl }
digit_word (b ∷ c ∷ bs) h = by (b == 48) refl (rw (not_none (suc (length bs))) at h)
  where
    by : (t : Bool) → (b == 48) ≡ t → (not t && list_all is_ascii_digit (b ∷ c ∷ bs)) ≡ true → DigitWord (b ∷ c ∷ bs)
    by true e h = absurd (cc h)
    by false e h = record { some = omega arith; all = h; single = λ same. absurd (grind (arith, nat_tests)) }

same_digits : (ds : List ℕ) → list_all is_ascii_digit ds ≡ all_ascii_digits ds
same_digits [] = refl
same_digits (d ∷ ds) = ap (λ (b : Bool). is_ascii_digit d && b) (same_digits ds)

pub number_read : (E : Type 0) (word : List ℕ) (n : ℕ) → are_digits_in word ≡ true → ParsesUnsigned {E = E} 64 10 word (Ok n) → word ≡ decimal n
number_read E word n h parsed =
    let w = digit_word word h in
    let all : all_ascii_digits word ≡ true = sym (same_digits word) ∙ w.all in
    let o = parse_digits own {E = E} 64 word (Ok n) parsed all in
    sym (decimal-digits_value own word all w.some w.single o.0.1) ∙ ap decimal (sym o.1)

pub no_number : {E : Type 0} (word : List ℕ) (e : E) → ParsesUnsigned {E = E} 64 10 word (Err e) → (n : ℕ) → n < 2 ^ 64 → word ≢ decimal n
no_number word e parsed n fits same = let r = parse-decimal 64 n word (Err e) fits fits same parsed in cc r

pub no_digits : (word : List ℕ) → are_digits_in word ≡ false → (n : ℕ) → n < 2 ^ 64 → word ≢ decimal n
no_digits word other n fits same = let yes = digits_of_number n fits in let no = rw same at other in cc (yes, no)

pub number_fits : (E : Type 0) (word : List ℕ) (n : ℕ) → ParsesUnsigned {E = E} 64 10 word (Ok n) → n < 2 ^ 64
number_fits E word n parsed = let fits = parsed.0.1 in let same = parsed.1 in omega arith

-- one word is one number
pub same_number : (v : Option (List ℕ)) (word : List ℕ) (n m : ℕ) → Some word ≡ v → n < 2 ^ 64 → word ≡ decimal n → m < 2 ^ 64 → v ≡ Some (decimal m) → n ≡ m
same_number v word n m is fits digits few other =
    let both : Some word ≡ Some (decimal m) = is ∙ other in
    let words : word ≡ decimal m = cc both in
    decimal_injective n m fits few (sym digits ∙ words)
