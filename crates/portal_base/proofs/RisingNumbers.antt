-- Numbers of which none is below the one before it, and what a search among them finds.
use Rattle.std.proofs.Common.{◌≡◌, ℕ, ◌<◌, ◌≤◌, Bool, true, false, List, length, get_or, subst, sym, arith}
use Rattle.std.specs.Prelude.{◌==◌, Some, Result, Ok, Err, is_ok}
use Rattle.std.specs.List.{list_any, IsAllAdjacentAnswer}
use Rattle.std.specs.List.Sorted.{IsNonDecreasing, IsBinarySearchResult}
use Rattle.std.specs.Ordering.{nat_cmp, is_le, is_some_and}
use Rattle.std.proofs.lemmas.Bool.{eq-eqb, ne_eqb}
use Rattle.std.proofs.lemmas.List.Elements.{All-from_get_or}
use Rattle.std.proofs.lemmas.List.Folds.{list_any_at, list_any_none}
use Rattle.std.proofs.lemmas.List.Sorted.{searched, non_decreasing_from_is_sorted}

-- numbers that `is_sorted` says yes to rise
pub told_to_rise : (numbers seen : List ℕ) (answer : Bool) → seen ≡ numbers → IsAllAdjacentAnswer (λ x y b. is_some_and is_le (Some (nat_cmp x y)) ≡ b) seen answer → answer ≡ true → IsNonDecreasing numbers
told_to_rise numbers seen true same h r = subst IsNonDecreasing same (non_decreasing_from_is_sorted seen true h)
told_to_rise numbers seen false same h r = cc r

apart : (numbers : List ℕ) (number at : ℕ) → ((k : ℕ) → k < at → get_or numbers k 0 < number) → ((k : ℕ) → at ≤ k → k < length numbers → number < get_or numbers k 0) → (k : ℕ) → k < length numbers → (get_or numbers k 0 == number) ≡ false
apart numbers number at below above k within =
    let low : k < at → get_or numbers k 0 < number = below k in
    let high : at ≤ k → k < length numbers → number < get_or numbers k 0 = above k in
    ne_eqb (get_or numbers k 0) number (λ same. grind arith)

-- a search among numbers that rise finds a number exactly where it is among them
found : (numbers : List ℕ) (number : ℕ) (answer : Result ℕ ℕ) → IsNonDecreasing numbers → IsBinarySearchResult (λ n. nat_cmp n number) numbers answer → is_ok answer ≡ list_any (λ n. n == number) numbers
found numbers number (Ok at) rise h =
    let there = searched numbers number (Ok at) h (λ i j. rise i j 0) in
    sym (list_any_at (λ (n : ℕ). n == number) numbers at 0 there.0 (eq-eqb (get_or numbers at 0) number there.1))
found numbers number (Err at) rise h =
    let none = searched numbers number (Err at) h (λ i j. rise i j 0) in
    sym (list_any_none (λ (n : ℕ). n == number) numbers (All-from_get_or (λ (n : ℕ). (n == number) ≡ false) numbers 0 (apart numbers number at none.1 none.2)))

pub found_among : (numbers seen : List ℕ) (number : ℕ) (answer : Result ℕ ℕ) → seen ≡ numbers → IsNonDecreasing numbers → IsBinarySearchResult (λ n. nat_cmp n number) seen answer → is_ok answer ≡ list_any (λ n. n == number) numbers
found_among numbers seen number answer same rise h = found numbers number answer rise (rw same at h)
