-- Lists whose items differ: joined, filtered, and made of the parts of other lists.
use Rattle.std.proofs.Common.{◌≡◌, List, [], ◌∷◌, ◌++◌, Bool, true, false, not, cond, refl, arith}
use Rattle.std.specs.List.{list_all, filter, IsDistinct, AllByRecursion}

module _ {X : Type 0} (same : X → X → Bool) where
  none_filter : (x : X) (p : X → Bool) (ys : List X) → AllByRecursion (λ y. same x y ≡ false) ys → AllByRecursion (λ y. same x y ≡ false) (filter p ys)
  none_filter x p [] h = tt
  none_filter x p (y ∷ ys) h = elim (p y) as (λ b. AllByRecursion (λ z. same x z ≡ false) (cond b (y ∷ filter p ys) (filter p ys))) [
    | true ↦ (h.0, none_filter x p ys h.1)
    | false ↦ none_filter x p ys h.1
  ]

  pub IsDistinct-filter : (p : X → Bool) (xs : List X) → IsDistinct same xs → IsDistinct same (filter p xs)
  unfolding IsDistinct
  IsDistinct-filter p [] h = tt
  IsDistinct-filter p (x ∷ xs) h = elim (p x) as (λ b. IsDistinct same (cond b (x ∷ filter p xs) (filter p xs))) [
    | true ↦ (none_filter x p xs h.0, IsDistinct-filter p xs h.1)
    | false ↦ IsDistinct-filter p xs h.1
  ]

  filter_one : (x y : X) (ys : List X) (b : Bool) → same x y ≡ b → AllByRecursion (λ z. same x z ≡ false) ys → AllByRecursion (λ z. same x z ≡ false) (cond (not b) (y ∷ ys) ys)
  filter_one x y ys true e h = h
  filter_one x y ys false e h = (e, h)

  -- nothing is the same as x where all that is was left out
  filter_none : (x : X) (ys : List X) → AllByRecursion (λ y. same x y ≡ false) (filter (λ y. not (same x y)) ys)
  filter_none x [] = tt
  filter_none x (y ∷ ys) = filter_one x y (filter (λ z. not (same x z)) ys) (same x y) refl (filter_none x ys)

  pub IsDistinct-first : (x : X) (xs : List X) → IsDistinct same xs → IsDistinct same (x ∷ filter (λ y. not (same x y)) xs)
  unfolding IsDistinct
  IsDistinct-first x xs h = (filter_none x xs, IsDistinct-filter (λ y. not (same x y)) xs h)

-- what is true of all items is true of those that a filter leaves
pub list_all-filter : {X : Type 0} (p q : X → Bool) (xs : List X) → list_all p xs ≡ true → list_all p (filter q xs) ≡ true
list_all-filter p q [] h = refl
list_all-filter p q (x ∷ xs) h = grind (arith, list_all-filter p q xs)

-- what follows from what is true of all items is true of all
pub list_all-weaken : {X : Type 0} (p q : X → Bool) → ((x : X) → p x ≡ true → q x ≡ true) → (xs : List X) → list_all p xs ≡ true → list_all q xs ≡ true
list_all-weaken p q f [] h = refl
list_all-weaken p q f (x ∷ xs) h = grind (arith, f x, list_all-weaken p q f xs)

-- ---- a list that gets one more

module _ {X : Type 0} (same : X → X → Bool) where
  others_more : (x new : X) (ys : List X) → same x new ≡ false → AllByRecursion (λ y. same x y ≡ false) ys → AllByRecursion (λ y. same x y ≡ false) (ys ++ new ∷ [])
  others_more x new [] e k = (e, tt)
  others_more x new (y ∷ ys) e k = (k.0, others_more x new ys e k.1)

  -- one that none is the same as
  pub IsDistinct-more : (new : X) (xs : List X) → AllByRecursion (λ x. same x new ≡ false) xs → IsDistinct same xs → IsDistinct same (xs ++ new ∷ [])
  unfolding IsDistinct
  IsDistinct-more new [] e k = (tt, tt)
  IsDistinct-more new (x ∷ xs) e k = (others_more x new xs e.0 k.0, IsDistinct-more new xs e.1 k.1)
