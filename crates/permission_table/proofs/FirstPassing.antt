-- The first of a list that passes a test, changed in its place.
use Rattle.std.proofs.Common.{◌≡◌, ℕ, ◌+◌, ◌<◌, ◌≤◌, suc, List, [], ◌∷◌, length, get_or, set, Bool, true, false, not, ◌||◌, cond, ltb, Some, None, refl, ap, ◌∙◌, arith}
use Rattle.std.proofs.lemmas.Bool.Decides.{nat_tests}
use Rattle.std.specs.List.{prefix_len, position, list_any}
use Rattle.portal_model.specs.RecordChanges.{change_first}

module _ {X : Type 0} (test : X → Bool) where
  abbrev fails-test : X → Bool
  fails-test x = not (test x)

  -- the place of the first
  abbrev place : List X → ℕ
  place xs = prefix_len fails-test xs

  any-place : (xs : List X) → list_any test xs ≡ ltb (place xs) (length xs)
  any-place [] = refl
  any-place (x ∷ xs) = step (test x) (any-place xs)
    where
      step : (b : Bool) → list_any test xs ≡ ltb (place xs) (length xs) → (b || list_any test xs) ≡ ltb (cond (not b) (1 + place xs) 0) (suc (length xs))
      step true e = grind (arith, nat_tests)
      step false e = grind (arith, nat_tests)

  module _ (change : X → X) where
    changed-there : (xs : List X) (d : X) → place xs < length xs → set xs (place xs) (change (get_or xs (place xs) d)) ≡ change_first test change xs
    changed-there [] d l = absurd (omega arith)
    changed-there (x ∷ xs) d l = step (test x) l (changed-there xs d)
      where
        step : (b : Bool) → cond (not b) (1 + place xs) 0 < suc (length xs)
            → (place xs < length xs → set xs (place xs) (change (get_or xs (place xs) d)) ≡ change_first test change xs)
            → set (x ∷ xs) (cond (not b) (1 + place xs) 0) (change (get_or (x ∷ xs) (cond (not b) (1 + place xs) 0) d)) ≡ cond b (change x ∷ xs) (x ∷ change_first test change xs)
        step true l more = refl
        step false l more =
            let e : 1 + place xs ≡ suc (place xs) = omega arith in
            ap (λ (n : ℕ). set (x ∷ xs) n (change (get_or (x ∷ xs) n d))) e ∙ ap (λ (ys : List X). x ∷ ys) (more (omega arith))

    unchanged-none : (xs : List X) → length xs ≤ place xs → xs ≡ change_first test change xs
    unchanged-none [] l = refl
    unchanged-none (x ∷ xs) l = step (test x) l (unchanged-none xs)
      where
        step : (b : Bool) → suc (length xs) ≤ cond (not b) (1 + place xs) 0 → (length xs ≤ place xs → xs ≡ change_first test change xs) → x ∷ xs ≡ cond b (change x ∷ xs) (x ∷ change_first test change xs)
        step true l more = absurd (omega arith)
        step false l more = ap (λ (ys : List X). x ∷ ys) (more (omega arith))

    some-place : (n l i : ℕ) (b : Bool) → ltb n l ≡ b → Some i ≡ cond b (Some n) None → (i ≡ n) × (n < l)
    some-place n l i true h e = (cc, grind (arith, nat_tests))
    some-place n l i false h e = absurd (cc)

    no-place : (n l : ℕ) (b : Bool) → ltb n l ≡ b → None ≡ cond b (Some n) None → l ≤ n
    no-place n l true h e = absurd (cc)
    no-place n l false h e = grind (arith, nat_tests)

    pub first-changed : (xs : List X) (i : ℕ) (v : X) → Some i ≡ position test xs → v ≡ get_or xs i v → set xs i (change v) ≡ change_first test change xs
    first-changed xs i v e h =
        let p = some-place (place xs) (length xs) i (ltb (place xs) (length xs)) refl e in
        ap (λ (x : X). set xs i (change x)) h ∙ (ap (λ (n : ℕ). set xs n (change (get_or xs n v))) p.0 ∙ changed-there xs v p.1)

    pub first-missing : (xs : List X) → None ≡ position test xs → xs ≡ change_first test change xs
    first-missing xs e = unchanged-none xs (no-place (place xs) (length xs) (ltb (place xs) (length xs)) refl e)

  some-any : (n l i : ℕ) (b : Bool) → ltb n l ≡ b → Some i ≡ cond b (Some n) None → b ≡ true
  some-any n l i true h e = refl
  some-any n l i false h e = absurd (cc)

  none-any : (n l : ℕ) (b : Bool) → ltb n l ≡ b → None ≡ cond b (Some n) None → b ≡ false
  none-any n l true h e = absurd (cc)
  none-any n l false h e = refl

  pub is-there : (xs : List X) (i : ℕ) → Some i ≡ position test xs → list_any test xs ≡ true
  is-there xs i e = any-place xs ∙ some-any (place xs) (length xs) i (ltb (place xs) (length xs)) refl e

  pub is-missing : (xs : List X) → None ≡ position test xs → list_any test xs ≡ false
  is-missing xs e = any-place xs ∙ none-any (place xs) (length xs) (ltb (place xs) (length xs)) refl e
