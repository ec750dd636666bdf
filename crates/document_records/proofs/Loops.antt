-- Lists that a loop makes item by item.
use Rattle.std.proofs.Common.{◌≡◌, ◌+◌, ◌<◌, ℕ, zero, suc, List, [], ◌∷◌, ◌++◌, length, take, get_or, map, Bool, true, refl, sym, ap, ◌∙◌, arith}
use Rattle.std.specs.List.{list_all}
use Rattle.std.proofs.lemmas.List.{take_more}

-- the list up to and with the item at a place
pub one_more : {X : Type 0} (xs : List X) (i : ℕ) (x : X) → i < length xs → x ≡ get_or xs i x → take (i + 1) xs ≡ take i xs ++ x ∷ []
one_more {X = X} xs i x h e = take_more xs i x h ∙ ap (λ (y : X). take i xs ++ y ∷ []) (sym e)

module _ {X Y : Type 0} (f : X → Y) where
  pub map-append : (xs ys : List X) → map f (xs ++ ys) ≡ map f xs ++ map f ys
  map-append [] ys = refl
  map-append (x ∷ xs) ys = ap (λ (zs : List Y). f x ∷ zs) (map-append xs ys)

  pub map-more : (xs : List X) (i : ℕ) (x : X) → i < length xs → x ≡ get_or xs i x → map f (take (i + 1) xs) ≡ map f (take i xs) ++ f x ∷ []
  map-more xs i x h e = ap (map f) (one_more xs i x h e) ∙ map-append (take i xs) (x ∷ [])

  pub all_map : (p : Y → Bool) (xs : List X) (i : ℕ) (x : X) → i < length xs → x ≡ get_or xs i x → list_all p (map f xs) ≡ true → p (f x) ≡ true
  all_map p [] i x h e k = absurd (omega arith)
  all_map p (y ∷ ys) zero x h e k = grind arith
  all_map p (y ∷ ys) (suc i) x h e k = grind (arith, all_map p ys i x)

pub all_item : {X : Type 0} (p : X → Bool) (xs : List X) (i : ℕ) (x : X) → i < length xs → x ≡ get_or xs i x → list_all p xs ≡ true → p x ≡ true
all_item p [] i x h e k = absurd (omega arith)
all_item p (y ∷ ys) zero x h e k = grind arith
all_item p (y ∷ ys) (suc i) x h e k = grind (arith, all_item p ys i x)
