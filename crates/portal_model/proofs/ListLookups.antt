-- Looking up in a list that was filtered, mapped or made longer.
use Rattle.std.proofs.Common.{◌≡◌, ◌==◌, ℕ, List, [], ◌∷◌, Bool, true, cond, Some, None, refl, map, arith}
use Rattle.std.specs.List.{find, filter, list_all}
use Rattle.std.specs.Option.{option_map}
use Rattle.std.proofs.lemmas.Bool.Decides.{nat_tests}
use Rattle.portal_base.specs.Names.{is_same}

pub is_same-eq : (a b : List ℕ) → is_same a b ≡ true → a ≡ b
is_same-eq [] [] h = refl
is_same-eq [] (y ∷ ys) h = cc
is_same-eq (x ∷ xs) [] h = cc
is_same-eq (x ∷ xs) (y ∷ ys) h = grind (arith, nat_tests, is_same-eq xs ys)

pub is_same-refl : (a : List ℕ) → is_same a a ≡ true
is_same-refl [] = refl
is_same-refl (x ∷ xs) = grind (arith, nat_tests, is_same-refl xs)

module _ {X : Type 0} (p q : X → Bool) where
  -- where the filter says the same of all that the test finds
  pub find-filter : (b : Bool) → ((x : X) → p x ≡ true → q x ≡ b) → (xs : List X) → find p (filter q xs) ≡ cond b (find p xs) None
  find-filter b h [] = grind arith
  find-filter b h (x ∷ xs) = grind (arith, find-filter b h xs, h x)

  pub find-filter-none : (xs : List X) → find p xs ≡ None → find p (filter q xs) ≡ None
  find-filter-none [] e = refl
  find-filter-none (x ∷ xs) e = grind (arith, find-filter-none xs)

  pub find-filter-some : (xs : List X) (x : X) → find p xs ≡ Some x → q x ≡ true → find p (filter q xs) ≡ Some x
  find-filter-some [] y e h = cc
  find-filter-some (x ∷ xs) y e h = grind (arith, find-filter-some xs y)

  -- two filters may change places
  pub filters-swap : (xs : List X) → filter p (filter q xs) ≡ filter q (filter p xs)
  filters-swap [] = refl
  filters-swap (x ∷ xs) = grind (arith, filters-swap xs)

  -- what is true of all is true of the one that is found
  pub found_in_all : (xs : List X) (x : X) → find p xs ≡ Some x → list_all q xs ≡ true → q x ≡ true
  found_in_all [] y e h = cc
  found_in_all (x ∷ xs) y e h = grind (arith, found_in_all xs y)

pub found_passes : {X : Type 0} (p : X → Bool) (xs : List X) (x : X) → find p xs ≡ Some x → p x ≡ true
found_passes p [] y e = cc
found_passes p (x ∷ xs) y e = grind (arith, found_passes p xs y)

pub find-map : {X Y : Type 0} (p : Y → Bool) (f : X → Y) (xs : List X) → find p (map f xs) ≡ option_map f (find (λ x. p (f x)) xs)
find-map p f [] = refl
find-map p f (x ∷ xs) = grind (arith, find-map p f xs)

pub nat_is : (a b : ℕ) → (a == b) ≡ true → a ≡ b
nat_is a b h = grind (arith, nat_tests)
