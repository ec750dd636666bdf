-- Lists in rising order of a key: what is looked up in them, and that this tells them.
use Rattle.std.proofs.Common.{◌≡◌, List, [], ◌∷◌, map, Bool, true, false, cond, Option, Some, None, refl, ap, ◌∙◌, arith}
use Rattle.std.specs.List.{find, filter, list_all}
use Rattle.std.specs.Option.{option_map}
use Rattle.portal_model.specs.Ordered.{put, put_all, is_rising}
use Rattle.portal_model.proofs.RisingLists.{Order}

-- what is found, where it passes the test
abbrev pub kept : {X : Type 0} → (X → Bool) → Option X → Option X
kept p None = None
kept p (Some x) = cond (p x) (Some x) None

module _ {K X : Type 0} (less same : K → K → Bool) (key : X → K) (o : Order less same) where
  abbrev pub before : X → X → Bool
  before x y = less (key x) (key y)

  abbrev pub at : K → X → Bool
  at k x = same (key x) k

  -- ---- after a put

  pub find-put : (k : K) (x : X) (xs : List X) → find (at k) (put before x xs) ≡ cond (at k x) (Some x) (find (at k) xs)
  find-put k x [] = refl
  find-put k x (y ∷ ys) = grind (arith, find-put k x ys, o.total (key x) (key y), o.eq (key x) k, o.eq (key y) k, o.irreflexive k)

  pub find-put_all : (k : K) (xs : List X) → find (at k) (put_all before xs) ≡ find (at k) xs
  find-put_all k [] = refl
  find-put_all k (x ∷ xs) = find-put k x (put_all before xs) ∙ ap (λ (f : Option X). cond (at k x) (Some x) f) (find-put_all k xs)

  -- ---- after a filter that asks of more than the key

  all-filter : (p : X → Bool) (z : X) (xs : List X) → list_all (before z) xs ≡ true → list_all (before z) (filter p xs) ≡ true
  all-filter p z [] h = refl
  all-filter p z (x ∷ xs) h = grind (arith, all-filter p z xs)

  same-not : (a b : K) → less b a ≡ true → same a b ≡ false
  same-not a b h = grind (arith, o.eq a b, o.irreflexive a)

  -- what stands ahead of all is not found again
  not-behind : (k : K) (z : X) (xs : List X) → list_all (before z) xs ≡ true → key z ≡ k → find (at k) xs ≡ None
  not-behind k z [] h e = refl
  not-behind k z (x ∷ xs) h e = grind (arith, not-behind k z xs, same-not (key x) k)

  pub find-kept : (p : X → Bool) (k : K) (xs : List X) → is_rising before xs ≡ true → find (at k) (filter p xs) ≡ kept p (find (at k) xs)
  find-kept p k [] h = refl
  find-kept p k (x ∷ xs) h = grind (arith, find-kept p k xs, not-behind k x xs, all-filter p x xs, not-behind k x (filter p xs), o.eq (key x) k)

  -- ---- after a change that keeps keys

  pub find-changed : (f : X → X) → ((x : X) → key (f x) ≡ key x) → (k : K) (xs : List X) → find (at k) (map f xs) ≡ option_map f (find (at k) xs)
  find-changed f e k [] = refl
  find-changed f e k (x ∷ xs) = grind (arith, find-changed f e k xs, e x)

  -- ---- lists in order of which each key finds the same are equal

  found-above : (k : K) (z y : X) (xs : List X) → list_all (before z) xs ≡ true → find (at k) xs ≡ Some y → less (key z) k ≡ true
  found-above k z y [] h e = cc
  found-above k z y (x ∷ xs) h e = grind (arith, found-above k z y xs, o.eq (key x) k)

  heads : (x y : X) (xs ys : List X) → list_all (before x) xs ≡ true → list_all (before y) ys ≡ true →
      cond (at (key x) x) (Some x) (find (at (key x)) xs) ≡ cond (at (key x) y) (Some y) (find (at (key x)) ys) →
      cond (at (key y) x) (Some x) (find (at (key y)) xs) ≡ cond (at (key y) y) (Some y) (find (at (key y)) ys) → x ≡ y
  heads x y xs ys h l a b =
      grind (arith, o.itself (key x), o.itself (key y), found-above (key x) y x ys, found-above (key y) x y xs, o.through (key x) (key y) (key x), o.irreflexive (key x))

  tails : (k : K) (x y : X) (xs ys : List X) → list_all (before x) xs ≡ true → list_all (before y) ys ≡ true → x ≡ y →
      cond (at k x) (Some x) (find (at k) xs) ≡ cond (at k y) (Some y) (find (at k) ys) → find (at k) xs ≡ find (at k) ys
  tails k x y xs ys h l e a = grind (arith, not-behind k x xs, not-behind k y ys, o.eq (key x) k, o.eq (key y) k)

  pub told-apart : (xs ys : List X) → is_rising before xs ≡ true → is_rising before ys ≡ true → ((k : K) → find (at k) xs ≡ find (at k) ys) → xs ≡ ys
  told-apart [] [] h l e = refl
  told-apart [] (y ∷ ys) h l e =
      let f : None ≡ cond (at (key y) y) (Some y) (find (at (key y)) ys) = e (key y) in
      grind (arith, o.itself (key y))
  told-apart (x ∷ xs) [] h l e =
      let f : cond (at (key x) x) (Some x) (find (at (key x)) xs) ≡ None = e (key x) in
      grind (arith, o.itself (key x))
  told-apart (x ∷ xs) (y ∷ ys) h l e =
      let hx : list_all (before x) xs ≡ true = grind arith in
      let hs : is_rising before xs ≡ true = grind arith in
      let lx : list_all (before y) ys ≡ true = grind arith in
      let ls : is_rising before ys ≡ true = grind arith in
      let same_head : x ≡ y = heads x y xs ys hx lx (e (key x)) (e (key y)) in
      let same_tail : xs ≡ ys = told-apart xs ys hs ls (λ k. tails k x y xs ys hx lx same_head (e k)) in
      cc
