-- Where two lists differ first, and lists that are told item by item.
use Rattle.std.proofs.Common.{◌≡◌, ℕ, zero, suc, ◌<◌, ◌-◌, List, [], ◌∷◌, map, take, slice_get, Option, Some, None, option_map, refl, sym, ap, ◌∙◌, arith}
use Rattle.std.proofs.lemmas.List.{take-map}
use Rattle.std.proofs.lemmas.Option.{slice_get-map}
use Rattle.app_trace.specs.Matches.{DifferFirst}

-- ---- what is told item by item, one to one

pub map-apart : {X Y : Type 0} (f : X → Y) (apart : (x y : X) → f x ≡ f y → x ≡ y) (xs ys : List X) → map f xs ≡ map f ys → xs ≡ ys
map-apart f apart [] [] e = refl
map-apart f apart [] (y ∷ ys) e = cc
map-apart f apart (x ∷ xs) [] e = cc
map-apart f apart (x ∷ xs) (y ∷ ys) e =
    let first : f x ≡ f y = cc in
    let rest : map f xs ≡ map f ys = cc in
    let head : x ≡ y = apart x y first in
    let tail : xs ≡ ys = map-apart f apart xs ys rest in
    cc

pub option-apart : {X Y : Type 0} (f : X → Y) (apart : (x y : X) → f x ≡ f y → x ≡ y) (a b : Option X) → option_map f a ≡ option_map f b → a ≡ b
option-apart f apart None None e = refl
option-apart f apart None (Some y) e = cc
option-apart f apart (Some x) None e = cc
option-apart f apart (Some x) (Some y) e =
    let inner : f x ≡ f y = cc in
    ap Some (apart x y inner)

pub differ-told : {X Y : Type 0} (f : X → Y) (apart : (x y : X) → f x ≡ f y → x ≡ y) (xs ys : List X) (place : ℕ) → DifferFirst xs ys place → DifferFirst (map f xs) (map f ys) place
differ-told f apart xs ys place d = record {
  from_one = d.from_one;
  alike = take-map f (place - 1) xs ∙ ap (map f) d.alike ∙ sym (take-map f (place - 1) ys);
  differ = λ e. d.differ (option-apart f apart (slice_get xs (place - 1)) (slice_get ys (place - 1)) (sym (slice_get-map f xs (place - 1)) ∙ e ∙ slice_get-map f ys (place - 1)));
}

-- ---- there is one such place

got-take : {X : Type 0} (xs : List X) (n i : ℕ) → i < n → slice_get (take n xs) i ≡ slice_get xs i
got-take xs zero i h = absurd (omega arith)
got-take [] (suc n) i h = refl
got-take (x ∷ xs) (suc n) zero h = refl
got-take (x ∷ xs) (suc n) (suc i) h = got-take xs n i (omega arith)

front-got : {X : Type 0} (xs ys : List X) (n i : ℕ) → i < n → take n xs ≡ take n ys → slice_get xs i ≡ slice_get ys i
front-got {X = X} xs ys n i h e = sym (got-take xs n i h) ∙ ap (λ (l : List X). slice_get l i) e ∙ got-take ys n i h

pub differ-once : {X : Type 0} (xs ys : List X) (j k : ℕ) → DifferFirst xs ys j → DifferFirst xs ys k → j < k → ⊥
differ-once xs ys j k d e h = d.differ (front-got xs ys (k - 1) (j - 1) (omega (arith, d.from_one)) e.alike)

pub same-nowhere : {X : Type 0} (xs ys : List X) (k : ℕ) → xs ≡ ys → DifferFirst xs ys k → ⊥
same-nowhere {X = X} xs ys k e d = d.differ (ap (λ (l : List X). slice_get l (k - 1)) e)
