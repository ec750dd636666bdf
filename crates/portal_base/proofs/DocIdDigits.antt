-- The digits of a document identifier.
use Rattle.std.proofs.Common.{◌≡◌, ℕ, ◌+◌, ◌*◌, ◌/◌, ◌%◌, ◌^◌, ◌<◌, ◌≤◌, List, [], ◌∷◌, length, take, get_or, Bool, true, false, ◌&&◌, eqb, cond, Some, None, refl, sym, ap, ◌∙◌, arith}
use Rattle.std.proofs.lemmas.Bool.Decides.{nat_tests}
use Rattle.std.proofs.lemmas.Str.{digit_value-digit_char}
use Rattle.std.specs.Char.{digit_char, digit_value}
use Rattle.std.specs.List.{list_all}
use Rattle.std.proofs.lemmas.List.{take_all}
use Rattle.std.proofs.lemmas.List.Sums.{fold_more}
use Rattle.std.proofs.lemmas.List.Folds.{list_all_more, list_all_at}
use Rattle.std.proofs.lemmas.Grind.{pow_more}
use Rattle.std.proofs.Math.Nat.{pow-le-pow_right}
use Rattle.portal_base.specs.Names.{is_lower_hex, is_doc_id, hex_number, doc_text}
use Rattle.portal_base.specs.DocIds.{doc_id_of}

-- ---- what is written

abbrev pub digit_at : ℕ → ℕ
digit_at n = digit_char (n % 16)

lower : (n : ℕ) → is_lower_hex (digit_at n) ≡ true
lower n = let l : n % 16 < 16 = omega arith in grind (arith, nat_tests)

abbrev pub digits : ℕ → List ℕ
digits n = digit_at (n / 268435456) ∷ digit_at (n / 16777216) ∷ digit_at (n / 1048576) ∷ digit_at (n / 65536) ∷ digit_at (n / 4096) ∷ digit_at (n / 256) ∷ digit_at (n / 16) ∷ digit_at n ∷ []

pub doc_text-digits : (n : ℕ) → digits n ≡ doc_text n
unfolding doc_text
doc_text-digits n =
    let e : n ≡ n / 1 = omega arith in
    λ i. digit_at (n / 268435456) ∷ digit_at (n / 16777216) ∷ digit_at (n / 1048576) ∷ digit_at (n / 65536) ∷ digit_at (n / 4096) ∷ digit_at (n / 256) ∷ digit_at (n / 16) ∷ digit_at (e i) ∷ []

is_id : (n : ℕ) → is_doc_id (digits n) ≡ true
unfolding is_doc_id
is_id n = λ i. true && (lower (n / 268435456) i && (lower (n / 16777216) i && (lower (n / 1048576) i && (lower (n / 65536) i && (lower (n / 4096) i && (lower (n / 256) i && (lower (n / 16) i && (lower n i && true))))))))

value : (n : ℕ) → digit_value (digit_at n) ≡ n % 16
value n = digit_value-digit_char (n % 16) (omega arith)

-- one more digit
more : (m n : ℕ) → m ≡ n / 16 → m * 16 + digit_value (digit_at n) ≡ n
more m n e = let w = value n in omega arith

hex_number-digits : (n : ℕ) → n < 2 ^ 32 → hex_number (digits n) ≡ n
unfolding hex_number
hex_number-digits n l =
    let one = more 0 (n / 268435456) (omega arith) in
    let two = more (0 * 16 + digit_value (digit_at (n / 268435456))) (n / 16777216) (one ∙ omega arith) in
    let three = more _ (n / 1048576) (two ∙ omega arith) in
    let four = more _ (n / 65536) (three ∙ omega arith) in
    let five = more _ (n / 4096) (four ∙ omega arith) in
    let six = more _ (n / 256) (five ∙ omega arith) in
    let seven = more _ (n / 16) (six ∙ omega arith) in
    more _ n seven

-- the digits are read again
pub digits_again : (n : ℕ) → n < 2 ^ 32 → doc_id_of (digits n) ≡ Some (record { number = n })
unfolding doc_id_of
digits_again n l = λ i. cond (is_id n i) (Some (record { number = hex_number-digits n l i })) None

-- ---- what is read

pub below_eight : (i n : ℕ) → i < 8 → n < 16 ^ i → n < 268435456
below_eight i n l h = let p : 16 ^ i ≤ 16 ^ 7 = pow-le-pow_right {n = 16} (omega arith) {i = i} {j = 7} (omega arith) in omega arith

pub below_more : (i n d : ℕ) → n < 16 ^ i → d < 16 → n * 16 + d < 16 ^ (i + 1)
below_more i n d h l = let p : 16 ^ (i + 1) ≡ 16 ^ i * 16 = pow_more 16 i in omega arith

pub number_more : (t : List ℕ) (i n : ℕ) → i < length t → n ≡ hex_number (take i t) → n * 16 + digit_value (get_or t i 0) ≡ hex_number (take (i + 1) t)
unfolding hex_number
number_more t i n l e = ap (λ (x : ℕ). x * 16 + digit_value (get_or t i 0)) e ∙ sym (fold_more (λ n b. n * 16 + digit_value b) 0 t i 0 l)

pub lower_more : (t : List ℕ) (i : ℕ) → i < length t → list_all is_lower_hex (take i t) ≡ true → is_lower_hex (get_or t i 0) ≡ true → list_all is_lower_hex (take (i + 1) t) ≡ true
lower_more t i l h e = list_all_more is_lower_hex t i 0 l ∙ (λ j. h j && e j)

pub other_length : (t : List ℕ) → (length t ≡ 8 → ⊥) → None ≡ doc_id_of t
unfolding doc_id_of is_doc_id
other_length t h =
    let e : eqb (length t) 8 ≡ false = grind (arith, nat_tests) in
    λ i. cond (sym e i && list_all is_lower_hex t) (Some (record { number = hex_number t })) None

and_false : (x : Bool) → (x && false) ≡ false
and_false true = refl
and_false false = refl

pub other_digit : (t : List ℕ) (i : ℕ) → i < length t → is_lower_hex (get_or t i 0) ≡ false → None ≡ doc_id_of t
unfolding doc_id_of is_doc_id
other_digit t i l e =
    let no : (eqb (length t) 8 && list_all is_lower_hex t) ≡ false = ap (λ (x : Bool). eqb (length t) 8 && x) (list_all_at is_lower_hex t i 0 l e) ∙ and_false (eqb (length t) 8) in
    λ j. cond (sym no j) (Some (record { number = hex_number t })) None

pub all_read : (t : List ℕ) (i n : ℕ) → length t ≡ 8 → length t ≤ i → list_all is_lower_hex (take i t) ≡ true → n ≡ hex_number (take i t) → Some (record { number = n }) ≡ doc_id_of t
unfolding doc_id_of is_doc_id
all_read t i n l a h e =
    let whole : take i t ≡ t = take_all i t a in
    let long : eqb (length t) 8 ≡ true = grind (arith, nat_tests) in
    let all : list_all is_lower_hex t ≡ true = ap (list_all is_lower_hex) (sym whole) ∙ h in
    let yes : (eqb (length t) 8 && list_all is_lower_hex t) ≡ true = λ j. long j && all j in
    let number : n ≡ hex_number t = e ∙ ap hex_number whole in
    λ j. cond (sym yes j) (Some (record { number = number j })) None

pub no_number : 0 ≡ hex_number []
unfolding hex_number
no_number = refl
