-- Lists in rising order: what keeps them so, and that their items tell them.
use Rattle.std.proofs.Common.{◌≡◌, List, [], ◌∷◌, ◌++◌, map, Bool, true, false, ◌||◌, refl, sym, ap, subst, ◌∙◌, arith}
use Rattle.std.specs.List.{filter, list_all, list_any}
use Rattle.portal_model.specs.Ordered.{put, put_all, is_rising}

-- a strict order of keys, with a test of equal keys
pub record Order {K : Type 0} (less same : K → K → Bool) : Type 0 where
  pub eq : (a b : K) → same a b ≡ true → a ≡ b
  pub itself : (a : K) → same a a ≡ true
  pub irreflexive : (a : K) → less a a ≡ false
  pub total : (a b : K) → less a b ≡ false → less b a ≡ false → a ≡ b
  pub through : (a b c : K) → less a b ≡ true → less b c ≡ true → less a c ≡ true

module _ {K X : Type 0} (less same : K → K → Bool) (key : X → K) (o : Order less same) where
  abbrev pub before : X → X → Bool
  before x y = less (key x) (key y)

  all-put : (z x : X) (xs : List X) → before z x ≡ true → list_all (before z) xs ≡ true → list_all (before z) (put before x xs) ≡ true
  all-put z x [] h l = grind arith
  all-put z x (y ∷ ys) h l = grind (arith, all-put z x ys)

  all-less : (z x : X) (xs : List X) → before z x ≡ true → list_all (before x) xs ≡ true → list_all (before z) xs ≡ true
  all-less z x [] h l = refl
  all-less z x (y ∷ ys) h l = grind (arith, all-less z x ys, o.through (key z) (key x) (key y))

  same-all : (x y : X) (xs : List X) → key x ≡ key y → list_all (before y) xs ≡ true → list_all (before x) xs ≡ true
  same-all x y xs e h = subst (λ (k : K). list_all (λ (w : X). less k (key w)) xs ≡ true) (sym e) h

  pub rising-put : (x : X) (xs : List X) → is_rising before xs ≡ true → is_rising before (put before x xs) ≡ true
  rising-put x [] h = refl
  rising-put x (y ∷ ys) h = grind (arith, rising-put x ys, all-put y x ys, all-less x y ys, same-all x y ys, o.total (key x) (key y))

  pub rising-put_all : (xs : List X) → is_rising before (put_all before xs) ≡ true
  rising-put_all [] = refl
  rising-put_all (x ∷ xs) = rising-put x (put_all before xs) (rising-put_all xs)

  put-first : (x : X) (xs : List X) → list_all (before x) xs ≡ true → put before x xs ≡ x ∷ xs
  put-first x [] h = refl
  put-first x (y ∷ ys) h = grind arith

  -- what stands in order stays as it is
  pub put_all-rising : (xs : List X) → is_rising before xs ≡ true → put_all before xs ≡ xs
  put_all-rising [] h = refl
  put_all-rising (x ∷ xs) h =
      let first : list_all (before x) xs ≡ true = grind arith in
      let rest : is_rising before xs ≡ true = grind arith in
      ap (put before x) (put_all-rising xs rest) ∙ put-first x xs first

  all-filter : (p : X → Bool) (z : X) (xs : List X) → list_all (before z) xs ≡ true → list_all (before z) (filter p xs) ≡ true
  all-filter p z [] h = refl
  all-filter p z (x ∷ xs) h = grind (arith, all-filter p z xs)

  pub rising-filter : (p : X → Bool) (xs : List X) → is_rising before xs ≡ true → is_rising before (filter p xs) ≡ true
  rising-filter p [] h = refl
  rising-filter p (x ∷ xs) h = grind (arith, rising-filter p xs, all-filter p x xs)

  all-map : (f : X → X) (k : (x : X) → key (f x) ≡ key x) (z : X) (xs : List X) → list_all (before z) xs ≡ true → list_all (before (f z)) (map f xs) ≡ true
  all-map f k z [] h = refl
  all-map f k z (x ∷ xs) h = grind (arith, all-map f k z xs, k z, k x)

  pub rising-map : (f : X → X) → ((x : X) → key (f x) ≡ key x) → (xs : List X) → is_rising before xs ≡ true → is_rising before (map f xs) ≡ true
  rising-map f k [] h = refl
  rising-map f k (x ∷ xs) h = grind (arith, rising-map f k xs, all-map f k x xs)

module _ {X : Type 0} (before : X → X → Bool) where
  all-append : (p : X → Bool) (xs ys : List X) → list_all p xs ≡ true → list_all p ys ≡ true → list_all p (xs ++ ys) ≡ true
  all-append p [] ys h l = l
  all-append p (x ∷ xs) ys h l = grind (arith, all-append p xs ys)

  -- what stands first is ahead of all that follows
  pub rising-append : (xs ys : List X) → is_rising before xs ≡ true → is_rising before ys ≡ true → list_all (λ x. list_all (before x) ys) xs ≡ true → is_rising before (xs ++ ys) ≡ true
  rising-append [] ys h l a = l
  rising-append (x ∷ xs) ys h l a = grind (arith, rising-append xs ys, all-append (before x) xs ys)

module _ {X : Type 0} (less same : X → X → Bool) (o : Order less same) where
  abbrev pub is_there : X → List X → Bool
  is_there k xs = list_any (λ x. same x k) xs

  pub any-put : (p : X → Bool) (x : X) (xs : List X) → list_any p (put less x xs) ≡ (p x || list_any p xs)
  any-put p x [] = refl
  any-put p x (y ∷ ys) = grind (arith, any-put p x ys, o.total x y)

  pub any-put_all : (p : X → Bool) (xs : List X) → list_any p (put_all less xs) ≡ list_any p xs
  any-put_all p [] = refl
  any-put_all p (x ∷ xs) = any-put p x (put_all less xs) ∙ ap (λ (b : Bool). p x || b) (any-put_all p xs)

  above : (z k : X) (xs : List X) → list_all (less z) xs ≡ true → is_there k xs ≡ true → less z k ≡ true
  above z k [] h t = cc
  above z k (x ∷ xs) h t = grind (arith, above z k xs, o.eq x k)

  apart : (z k : X) (xs : List X) → list_all (less z) xs ≡ true → z ≡ k → is_there k xs ≡ false
  apart z k [] h e = refl
  apart z k (x ∷ xs) h e = grind (arith, apart z k xs, o.eq x k, o.irreflexive k)

  heads : (x y : X) (xs ys : List X) → list_all (less x) xs ≡ true → list_all (less y) ys ≡ true →
      (same x x || is_there x xs) ≡ (same y x || is_there x ys) → (same x y || is_there y xs) ≡ (same y y || is_there y ys) → x ≡ y
  heads x y xs ys h l a b = grind (arith, o.itself x, o.itself y, o.eq y x, o.eq x y, above y x ys, above x y xs, o.through x y x, o.irreflexive x)

  tails : (k x y : X) (xs ys : List X) → list_all (less x) xs ≡ true → list_all (less y) ys ≡ true → x ≡ y →
      (same x k || is_there k xs) ≡ (same y k || is_there k ys) → is_there k xs ≡ is_there k ys
  tails k x y xs ys h l e a = grind (arith, apart x k xs, apart y k ys, o.eq x k, o.eq y k)

  -- lists in order with the same items are equal
  pub same_items : (xs ys : List X) → is_rising less xs ≡ true → is_rising less ys ≡ true → ((k : X) → is_there k xs ≡ is_there k ys) → xs ≡ ys
  same_items [] [] h l e = refl
  same_items [] (y ∷ ys) h l e = let f : false ≡ (same y y || is_there y ys) = e y in grind (arith, o.itself y)
  same_items (x ∷ xs) [] h l e = let f : (same x x || is_there x xs) ≡ false = e x in grind (arith, o.itself x)
  same_items (x ∷ xs) (y ∷ ys) h l e =
      let hx : list_all (less x) xs ≡ true = grind arith in
      let hs : is_rising less xs ≡ true = grind arith in
      let lx : list_all (less y) ys ≡ true = grind arith in
      let ls : is_rising less ys ≡ true = grind arith in
      let same_head : x ≡ y = heads x y xs ys hx lx (e x) (e y) in
      let same_tail : xs ≡ ys = same_items xs ys hs ls (λ k. tails k x y xs ys hx lx same_head (e k)) in
      cc
