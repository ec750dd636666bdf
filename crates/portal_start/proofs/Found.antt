-- Items with keys that differ: the one of a key is found by it, and what is true of it alone.
use Rattle.std.proofs.Common.{◌≡◌, List, [], ◌∷◌, map, Bool, true, false, ◌&&◌, ◌||◌, cond, Some, refl, sym, ap, subst, ◌∙◌, arith}
use Rattle.std.specs.List.{list_any, find, IsDistinct, AllByRecursion}

module _ {X K : Type 0} (key : X → K) (same : K → K → Bool) (eq : (a b : K) → same a b ≡ true → a ≡ b) (itself : (a : K) → same a a ≡ true) (turned : (a b : K) → same a b ≡ same b a) where
  -- no other item has the key
  none_more : (k : K) (h : X → Bool) (xs : List X) → AllByRecursion (λ y. same k y ≡ false) (map key xs) → list_any (λ x. same (key x) k && h x) xs ≡ false
  none_more k h [] d = refl
  none_more k h (x ∷ xs) d =
      let here : same (key x) k ≡ false = turned (key x) k ∙ d.0 in
      grind (arith, here, none_more k h xs d.1)

  any_cons : (k : K) (h : X → Bool) (x found : X) (xs : List X) (b : Bool) → same (key x) k ≡ b → cond b (Some x) (find (λ y. same (key y) k) xs) ≡ Some found → AllByRecursion (λ y. same (key x) y ≡ false) (map key xs) →
      (find (λ y. same (key y) k) xs ≡ Some found → list_any (λ y. same (key y) k && h y) xs ≡ h found) → ((b && h x) || list_any (λ y. same (key y) k && h y) xs) ≡ h found
  any_cons k h x found xs true e f d later =
      let this : x ≡ found = cc f in
      let none : list_any (λ y. same (key y) k && h y) xs ≡ false = none_more k h xs (subst (λ (j : K). AllByRecursion (λ y. same j y ≡ false) (map key xs)) (eq (key x) k e) d) in
      rw none (or_none (h x) ∙ ap h this)
    where
      or_none : (b : Bool) → (b || false) ≡ b
      or_none true = refl
      or_none false = refl
  any_cons k h x found xs false e f d later = later f

  -- what is asked of the item of a key alone
  pub any_found : (k : K) (h : X → Bool) (xs : List X) (found : X) → IsDistinct same (map key xs) → find (λ x. same (key x) k) xs ≡ Some found → list_any (λ x. same (key x) k && h x) xs ≡ h found
  unfolding IsDistinct
  any_found k h [] found d f = cc
  any_found k h (x ∷ xs) found d f =
      by_key (same (key x) k) refl (any_found k h xs found d.1)
    where
      by_key : (b : Bool) → same (key x) k ≡ b → (find (λ y. same (key y) k) xs ≡ Some found → list_any (λ y. same (key y) k && h y) xs ≡ h found) → ((same (key x) k && h x) || list_any (λ y. same (key y) k && h y) xs) ≡ h found
      by_key b e later =
          ap (λ (c : Bool). (c && h x) || list_any (λ y. same (key y) k && h y) xs) e
          ∙ any_cons k h x found xs b e (ap (λ (c : Bool). cond c (Some x) (find (λ y. same (key y) k) xs)) (sym e) ∙ f) d.0 later

  -- each item is found by its key
  abbrev pub Finds : List X → List X → Type 0
  Finds whole [] = Unit {0}
  Finds whole (x ∷ xs) = (find (λ y. same (key y) (key x)) whole ≡ Some x) × Finds whole xs

  behind : (first : X) (whole xs : List X) → AllByRecursion (λ y. same (key first) y ≡ false) (map key xs) → Finds whole xs → Finds (first ∷ whole) xs
  behind first whole [] d f = tt
  behind first whole (x ∷ xs) d f = (ap (λ (b : Bool). cond b (Some first) (find (λ y. same (key y) (key x)) whole)) d.0 ∙ f.0, behind first whole xs d.1 f.1)

  pub all_found : (xs : List X) → IsDistinct same (map key xs) → Finds xs xs
  unfolding IsDistinct
  all_found [] d = tt
  all_found (x ∷ xs) d = (ap (λ (b : Bool). cond b (Some x) (find (λ y. same (key y) (key x)) xs)) (itself (key x)), behind x xs xs d.0 (all_found xs d.1))
