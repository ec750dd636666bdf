-- What stands at a place of a list, and of the list of what a function gives of its items.
use Rattle.std.proofs.Common.{◌≡◌, ℕ, zero, suc, ◌<◌, List, [], ◌∷◌, ◌++◌, Some, length, map, refl, sym, ap, ◌∙◌, subst, arith}
use Rattle.std.specs.Prelude.{slice_get, slice_index_or, take, drop}
use Rattle.std.proofs.lemmas.List.{append-nil, length-map}

pub at_map : {X Y : Type 0} (f : X → Y) (xs : List X) (k : ℕ) (y : Y) → slice_get (map f xs) k ≡ Some y → (x : X) × (slice_get xs k ≡ Some x) × (f x ≡ y)
at_map f [] k y e = absurd (cc)
at_map f (x ∷ xs) zero y e = (x, refl, cc)
at_map f (x ∷ xs) (suc k) y e = at_map f xs k y e

pub map_at : {X Y : Type 0} (f : X → Y) (xs : List X) (k : ℕ) (x : X) → slice_get xs k ≡ Some x → slice_get (map f xs) k ≡ Some (f x)
map_at f [] k x e = absurd (cc)
map_at f (y ∷ ys) zero x e = let same : y ≡ x = cc in rw same refl
map_at f (y ∷ ys) (suc k) x e = map_at f ys k x e

pub is_there : {X : Type 0} (xs : List X) (k : ℕ) → k < length xs → (x : X) × (slice_get xs k ≡ Some x)
is_there [] k l = absurd (omega arith)
is_there (x ∷ xs) zero l = (x, refl)
is_there (x ∷ xs) (suc k) l = is_there xs k (omega arith)

pub is_within : {X : Type 0} (xs : List X) (k : ℕ) (x : X) → slice_get xs k ≡ Some x → k < length xs
is_within [] k x e = absurd (cc)
is_within (y ∷ ys) zero x e = omega arith
is_within (y ∷ ys) (suc k) x e = let l = is_within ys k x e in omega (arith, l)

pub one_there : {X : Type 0} (xs : List X) (k : ℕ) (x y : X) → slice_get xs k ≡ Some x → slice_get xs k ≡ Some y → x ≡ y
one_there xs k x y e f = cc

pub index_at : {X : Type 0} (xs : List X) (k : ℕ) (d x : X) → slice_get xs k ≡ Some x → slice_index_or xs k d ≡ x
index_at [] k d x e = absurd (cc)
index_at (y ∷ ys) zero d x e = cc
index_at (y ∷ ys) (suc k) d x e = index_at ys k d x e

-- one item more stands behind the others
pub one_more : {X Y : Type 0} (f : X → Y) (xs : List X) (x : X) (ys : List Y) → map f (xs ++ x ∷ []) ++ ys ≡ map f xs ++ (f x ∷ ys)
one_more f [] x ys = refl
one_more f (z ∷ zs) x ys = ap (λ l. f z ∷ l) (one_more f zs x ys)

-- what is true of two values is true of two that equal them
pub between : {X : Type 0} (a b u v : X) (P : X → X → Type 0) → u ≡ a → v ≡ b → P u v → P a b
between {X = X} a b u v P e f p = subst (λ (x : X). P x b) e (subst (P u) f p)

-- what a slice of a whole vector leaves in it
pub written_back : {X : Type 0} (xs ys : List X) → length xs ≡ length ys → take (length ys) (xs ++ drop (length xs) ys) ≡ xs
written_back [] [] e = refl
written_back [] (y ∷ ys) e = absurd (omega (arith, e))
written_back (x ∷ xs) [] e = absurd (omega (arith, e))
written_back (x ∷ xs) (y ∷ ys) e = ap (λ l. x ∷ l) (written_back xs ys (omega (arith, e)))

-- a list of what a function gives of items is as long as what the items came of
pub as_long : {X Y Z W : Type 0} (f : X → Y) (ys : List Y) (vs : List X) (ws : List Z) (ps : List W) (n : ℕ) → ys ≡ map f vs → length vs ≡ length ws → length ws ≡ n → n ≡ length ps → length ys ≡ length ps
as_long f ys vs ws ps n e v w n_is = ap length e ∙ (length-map vs f ∙ (v ∙ (w ∙ n_is)))

-- where nothing is left behind a front, the front is all
none_left : {X : Type 0} (n : ℕ) (xs : List X) → n ≡ length xs → n ≡ 0 → xs ≡ []
none_left n [] e z = refl
none_left n (x ∷ xs) e z = grind (arith, e, z)

pub all_gone : {X : Type 0} {n : ℕ} (front left whole : List X) → n ≡ length left → n ≡ 0 → front ++ left ≡ whole → front ≡ whole
all_gone front left whole e z h = sym (append-nil front) ∙ (ap (λ xs. front ++ xs) (sym (none_left _ left e z)) ∙ h)

pub all_gone_by : {X Y : Type 0} {n : ℕ} (f : X → Y) (front : List Y) (left : List X) (whole : List Y) → n ≡ length left → n ≡ 0 → front ++ map f left ≡ whole → front ≡ whole
all_gone_by f front left whole e z h = sym (append-nil front) ∙ (ap (λ xs. front ++ map f xs) (sym (none_left _ left e z)) ∙ h)
