-- Identifiers, one after another.
use Rattle.std.proofs.Common.{◌≡◌, ℕ, zero, suc, ◌+◌, ◌*◌, ◌<◌, ◌≤◌, Bool, true, false, List, [], ◌∷◌, ◌++◌, drop, get_or, length, sym, ap, subst, ◌∙◌, arith}
use Rattle.std.specs.Prelude.{nat_le, ◌&&◌}
use Rattle.std.specs.Int.{w32}
use Rattle.std.specs.List.{list_all}
use Rattle.std.proofs.lemmas.Bool.Decides.{nat_tests}
use Rattle.std.proofs.lemmas.List.{append-nil, append_assoc, drop_more, length-append}
use Rattle.dbus_types.specs.declared.types.Endian.TheVariants.{Little}
use Rattle.dbus_types.specs.declared.types.Value.{Value}
use Rattle.dbus_types.specs.declared.types.Value.TheVariants as V
use Rattle.dbus_values.specs.Spells.{number}
use Rattle.dbus_values.specs.Spelling.{Spelled, aligned, spelling, spellings, text_body}
use Rattle.dbus_values.proofs.OneSpelling.{roll_str, roll_u32}
use Rattle.dbus_dispatch.specs.Replies.{each_text}
use Rattle.dbus_dispatch.proofs.Lengths.{below_str}
use Rattle.dbus_dispatch.proofs.ReturnLength.{spelled_more}
use Rattle.bus_answers.specs.Begun.{texts_at}
use Rattle.bus_answers.specs.Little.{is_short}

first_of : (x y : Bool) → (x && y) ≡ true → x ≡ true
first_of true y e = cc
first_of false y e = e

rest_of : (x y : Bool) → (x && y) ≡ true → y ≡ true
rest_of true y e = e
rest_of false y e = cc

pub both_of : (x y : Bool) → (x && y) ≡ true → (x ≡ true) × (y ≡ true)
both_of x y e = (first_of x y e, rest_of x y e)

pub within : (n m : ℕ) → nat_le n m ≡ true → n ≤ m
within n m e = grind (arith, nat_tests)

pub short_at : (texts : List (List ℕ)) (i : ℕ) (d : List ℕ) → list_all is_short texts ≡ true → i < length texts → length (get_or texts i d) ≤ 8
short_at [] i d h lt = let no : ⊥ = omega (arith, lt) in absurd no
short_at (t ∷ ts) zero d h lt = within (length t) 8 (first_of (is_short t) (list_all is_short ts) h)
short_at (t ∷ ts) (suc i) d h lt = short_at ts i d (rest_of (is_short t) (list_all is_short ts) h) (omega (arith, lt))

-- one more text behind those that are put
pub left_is : (texts : List (List ℕ)) (i : ℕ) (t : List ℕ) → i < length texts → t ≡ get_or texts i t → drop i texts ≡ t ∷ drop (i + 1) texts
left_is texts i t lt is = drop_more texts i t lt ∙ ap (λ (w : List ℕ). w ∷ drop (i + 1) texts) (sym is)

pub texts_more : (texts : List (List ℕ)) (i : ℕ) (t s now next all : List ℕ) → i < length texts → t ≡ get_or texts i t → s ≡ t → next ≡ now ++ aligned 4 (λ start. text_body Little s) (length now)
    → now ++ texts_at (length now) (drop i texts) ≡ all → next ++ texts_at (length next) (drop (i + 1) texts) ≡ all
texts_more texts i t s now next all lt is same put before =
    let rest : List Value = each_text (drop (i + 1) texts) in
    let written : next ≡ now ++ spelling Little (length now) (V.Str t) =
    put ∙ (ap (λ (w : List ℕ). now ++ aligned 4 (λ start. text_body Little w) (length now)) same ∙ ap (λ (x : Spelled). now ++ x.1 (length now)) (sym (roll_str Little t))) in
    let here : now ++ spellings Little (length now) (V.Str t ∷ rest) ≡ all = subst (λ (l : List (List ℕ)). now ++ texts_at (length now) l ≡ all) (left_is texts i t lt is) before in
    subst (λ (bytes : List ℕ). bytes ++ spellings Little (length bytes) rest ≡ all) (sym written) (spelled_more now (V.Str t) rest all here)

-- how long they are
pub texts_length : (texts : List (List ℕ)) (at : ℕ) → list_all is_short texts ≡ true → length (texts_at at texts) ≤ 20 * length texts
texts_length [] at h = let none : 0 ≤ 20 * 0 = omega arith in none
texts_length (t ∷ ts) at h =
    let first : List ℕ = spelling Little at (V.Str t) in
    let short : length t ≤ 8 = within (length t) 8 (first_of (is_short t) (list_all is_short ts) h) in
    let one : length first ≤ 17 = below_str t 8 short at in
    let rest : length (texts_at (at + length first) ts) ≤ 20 * length ts = texts_length ts (at + length first) (rest_of (is_short t) (list_all is_short ts) h) in
    omega (arith, one, rest, length-append first (texts_at (at + length first) ts))

-- a place
pub place_is : (n : ℕ) → number Little w32 n ≡ spellings Little 0 (V.U32 n ∷ [])
place_is n = sym (append-nil (number Little w32 n)) ∙ ap (λ (x : Spelled). x.1 0 ++ []) (sym (roll_u32 Little n))

-- a value behind others
pub row_behind : (xs : List Value) (y : Value) (at : ℕ) → spellings Little at (xs ++ y ∷ []) ≡ spellings Little at xs ++ spelling Little (at + length (spellings Little at xs)) y
row_behind [] y at =
    let here : at ≡ at + 0 = omega arith in
    append-nil (spelling Little at y) ∙ ap (λ (n : ℕ). spelling Little n y) here
row_behind (x ∷ xs) y at =
    let first : List ℕ = spelling Little at x in
    let rest : List ℕ = spellings Little (at + length first) xs in
    let place : at + length first + length rest ≡ at + length (first ++ rest) = omega (arith, length-append first rest) in
    ap (λ (w : List ℕ). first ++ w) (row_behind xs y (at + length first))
    ∙ (sym (append_assoc first rest (spelling Little (at + length first + length rest) y))
    ∙ ap (λ (n : ℕ). (first ++ rest) ++ spelling Little n y) place)
