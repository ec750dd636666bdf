-- Facts of the numbers below another, and of lists made of them.
use Rattle.std.proofs.Common.{◌≡◌, ℕ, zero, suc, ◌+◌, ◌<◌, ◌≤◌, Bool, true, ◌&&◌, List, [], ◌∷◌, ◌++◌, map, ap, sym, ◌∙◌, zero-add, arith}
use Rattle.std.proofs.lemmas.List.FromFn.{map-range_with_len_more}
use Rattle.std.specs.List.{AllByRecursion, range_with_len}
use Rattle.std.proofs.lemmas.Bool.{and_parts}
use borrow.Author.Count.{below_none, below_more}

-- a test of each number below another
abbrev pub all_below : (ℕ → Bool) → ℕ → Bool
all_below test zero = true
all_below test (suc n) = test n && all_below test n

pub below : (test : ℕ → Bool) (n : ℕ) → all_below test n ≡ true → (i : ℕ) → i < n → test i ≡ true
below test zero h = below_none (λ i. test i ≡ true)
below test (suc n) h =
    let parts = and_parts (test n) (all_below test n) h in
    let more = below_more (λ i. test i ≡ true) n (below test n parts.1) parts.0 in
    λ i lt. more i (omega arith)

-- what holds of each number of a range holds of each item that is made of one
pub all_made : {X : Type 0} (P : X → Type 0) (f : ℕ → X) (a n : ℕ) → ((i : ℕ) → i < a + n → P (f i)) → AllByRecursion P (map f (range_with_len a n))
all_made P f a zero h = tt
all_made P f a (suc n) h = (h a (omega arith), all_made P f (a + 1) n (λ i lt. h i (omega arith)))

pub all_append : {X : Type 0} (P : X → Type 0) (xs ys : List X) → AllByRecursion P xs → AllByRecursion P ys → AllByRecursion P (xs ++ ys)
all_append P [] ys h k = k
all_append P (x ∷ xs) ys h k = (h.0, all_append P xs ys h.1 k)

-- one more behind what a range makes
pub made_more : {X : Type 0} (f : ℕ → X) (n : ℕ) (items new : List X) (one : X) → items ≡ map f (range_with_len 0 n) → one ≡ f n → new ≡ items ++ (one ∷ [])
    → new ≡ map f (range_with_len 0 (n + 1))
made_more f n items new one a b e = e ∙ ((λ i. a i ++ (b i ∷ [])) ∙ sym (map-range_with_len_more f 0 n n (zero-add n)))

-- all of them
pub made_all : {X : Type 0} (f : ℕ → X) (n m : ℕ) (items : List X) → items ≡ map f (range_with_len 0 n) → m ≤ n → n ≤ m → items ≡ map f (range_with_len 0 m)
made_all f n m items a low high = let e : n ≡ m = omega arith in a ∙ ap (λ (k : ℕ). map f (range_with_len 0 k)) e
