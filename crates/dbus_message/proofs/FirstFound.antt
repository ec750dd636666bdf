-- The first of a list that passes a test, and another in its place.
use Rattle.std.proofs.Common.{◌≡◌, ℕ, ◌+◌, ◌<◌, ◌≤◌, suc, List, [], ◌∷◌, length, get_or, Bool, true, false, not, cond, ltb, Some, None, refl, sym, ap, ◌∙◌, arith}
use Rattle.std.proofs.lemmas.Bool.Decides.{nat_tests}
use Rattle.std.specs.List.{find, prefix_len, position}

module _ {X : Type 0} (test : X → Bool) where
  abbrev fails-test : X → Bool
  fails-test x = not (test x)

  -- the place of the first
  abbrev place : List X → ℕ
  place xs = prefix_len fails-test xs

  found-there : (xs : List X) (d : X) → place xs < length xs → (find test xs ≡ Some (get_or xs (place xs) d)) × (test (get_or xs (place xs) d) ≡ true)
  found-there [] d l = absurd (omega arith)
  found-there (x ∷ xs) d l = step (test x) refl l (found-there xs d)
    where
      step : (b : Bool) → test x ≡ b → cond (not b) (1 + place xs) 0 < suc (length xs)
          → (place xs < length xs → (find test xs ≡ Some (get_or xs (place xs) d)) × (test (get_or xs (place xs) d) ≡ true))
          → (cond b (Some x) (find test xs) ≡ Some (get_or (x ∷ xs) (cond (not b) (1 + place xs) 0) d)) × (test (get_or (x ∷ xs) (cond (not b) (1 + place xs) 0) d) ≡ true)
      step true h l more = (refl, h)
      step false h l more =
          let e : 1 + place xs ≡ suc (place xs) = omega arith in
          let m = more (omega arith) in
          (m.0 ∙ ap (λ (n : ℕ). Some (get_or (x ∷ xs) n d)) (sym e), ap (λ (n : ℕ). test (get_or (x ∷ xs) n d)) e ∙ m.1)

  none-there : (xs : List X) → length xs ≤ place xs → find test xs ≡ None
  none-there [] l = refl
  none-there (x ∷ xs) l = step (test x) l (none-there xs)
    where
      step : (b : Bool) → suc (length xs) ≤ cond (not b) (1 + place xs) 0 → (length xs ≤ place xs → find test xs ≡ None) → cond b (Some x) (find test xs) ≡ None
      step true l more = absurd (omega arith)
      step false l more = more (omega arith)

  some-place : (n l i : ℕ) (b : Bool) → ltb n l ≡ b → Some i ≡ cond b (Some n) None → (i ≡ n) × (n < l)
  some-place n l i true h e = (cc, grind (arith, nat_tests))
  some-place n l i false h e = absurd (cc)

  no-place : (n l : ℕ) (b : Bool) → ltb n l ≡ b → None ≡ cond b (Some n) None → l ≤ n
  no-place n l true h e = absurd (cc)
  no-place n l false h e = grind (arith, nat_tests)

  pub first-found : (xs : List X) (i : ℕ) (v : X) → Some i ≡ position test xs → v ≡ get_or xs i v → (find test xs ≡ Some v) × (test v ≡ true)
  first-found xs i v e h =
      let p = some-place (place xs) (length xs) i (ltb (place xs) (length xs)) refl e in
      let same : v ≡ get_or xs (place xs) v = h ∙ ap (λ (n : ℕ). get_or xs n v) p.0 in
      let there = found-there xs v p.1 in
      (there.0 ∙ ap (λ (x : X). Some x) (sym same), ap test same ∙ there.1)

  pub none-found : (xs : List X) → None ≡ position test xs → find test xs ≡ None
  none-found xs e = none-there xs (no-place (place xs) (length xs) (ltb (place xs) (length xs)) refl e)
