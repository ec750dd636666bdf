-- Applications that are added one after another.
use Rattle.std.proofs.Common.{◌≡◌, ◌≢◌, ℕ, Bool, true, false, List, [], ◌∷◌, ◌++◌, ◌&&◌, ◌+◌, ◌<◌, suc, get_or, length, ap, sym, ◌∙◌, refl, subst, arith, length-append}
use Rattle.std.specs.Borrow.{Bor}
use Rattle.std.specs.Prelude.{map, take, drop}
use Rattle.std.specs.List.{list_all, list_any, AllByRecursion, IsDistinct}
use Rattle.std.specs.Cmp.Lexicographic.{lists_equiv}
use Rattle.std.specs.Cmp.{IsEquivalence}
use Rattle.std.proofs.lemmas.Bool.{and_parts}
use Rattle.std.proofs.Math.Seq.{take-suc}
use Rattle.std.proofs.lemmas.List.{map-append, take-append-drop}
use Rattle.std.proofs.lemmas.List.Folds.{list_all-append}
use Rattle.std.proofs.lemmas.Map.Keys.{IsDistinct-push}
use Rattle.std.proofs.lemmas.Cmp.{nat_eq_equiv}
use Rattle.portal_base.specs.Names.{is_app_name, is_same}
use Rattle.serve_words.specs.Words.{AreNamed}

equal : IsEquivalence is_same
equal = lists_equiv nat_eq_equiv

pub none_are : AreNamed []
unfolding IsDistinct
none_are = record { named = refl; apps = record { few = omega arith; differ = tt } }

and_true : (a b : Bool) → a ≡ true → b ≡ true → (a && b) ≡ true
and_true a b e f = rw e f

pub one_more_are : (apps : List (List ℕ)) (app : List ℕ) → AreNamed apps → is_app_name app ≡ true → length apps ≢ 64
    → list_any (is_same app) apps ≡ false → AreNamed (apps ++ app ∷ [])
one_more_are apps app old name room absent = record {
  named = list_all-append is_app_name apps (app ∷ []) ∙ and_true (list_all is_app_name apps) (list_all is_app_name (app ∷ [])) old.named (and_true (is_app_name app) true name refl);
  apps = record {
    few = omega (arith, old.apps.few, room, length-append apps (app ∷ []));
    differ = IsDistinct-push equal apps app old.apps.differ absent;
  };
}

all_front : {X : Type 0} (P : X → Type 0) (xs ys : List X) → AllByRecursion P (xs ++ ys) → AllByRecursion P xs
all_front P [] ys all = tt
all_front P (x ∷ xs) ys all = (all.0, all_front P xs ys all.1)

all_last : {X : Type 0} (P : X → Type 0) (xs : List X) (y : X) → AllByRecursion P (xs ++ y ∷ []) → P y
all_last P [] y all = all.0
all_last P (x ∷ xs) y all = all_last P xs y all.1

differ_front : (xs ys : List (List ℕ)) → IsDistinct is_same (xs ++ ys) → IsDistinct is_same xs
unfolding IsDistinct
differ_front [] ys d = tt
differ_front (x ∷ xs) ys d = (all_front (λ y. is_same x y ≡ false) xs ys d.0, differ_front xs ys d.1)

-- the first of names that are so are so
pub front_are : (xs ys : List (List ℕ)) → AreNamed (xs ++ ys) → AreNamed xs
front_are xs ys n = record {
  named = (and_parts (list_all is_app_name xs) (list_all is_app_name ys) (sym (list_all-append is_app_name xs ys) ∙ n.named)).0;
  apps = record {
    few = omega (arith, n.apps.few, length-append xs ys);
    differ = differ_front xs ys n.apps.differ;
  };
}

-- none of 65 names, nor of one that stands already, nor one that is none
pub not_many : (apps : List (List ℕ)) (app : List ℕ) → length apps ≡ 64 → AreNamed (apps ++ app ∷ []) → ⊥
not_many apps app full n = omega (arith, n.apps.few, full, length-append apps (app ∷ []))

not_first : (app x : List ℕ) (t : Bool) → is_same app x ≡ t → is_same x app ≡ false → is_same app x ≡ false
not_first app x true is other = let same : is_same x app ≡ is_same app x = equal.symm x app in absurd (cc (same, other, is))
not_first app x false is other = is

twice : (apps : List (List ℕ)) (app : List ℕ) → list_any (is_same app) apps ≡ true → IsDistinct is_same (apps ++ app ∷ []) → ⊥
unfolding IsDistinct
twice [] app among d = cc among
twice (x ∷ xs) app among d =
    let first = not_first app x (is_same app x) refl (all_last (λ y. is_same x y ≡ false) xs app d.0) in
    twice xs app (rw first at among) d.1

pub not_twice : (apps : List (List ℕ)) (app : List ℕ) → list_any (is_same app) apps ≡ true → AreNamed (apps ++ app ∷ []) → ⊥
not_twice apps app among n = twice apps app among n.apps.differ

pub not_nameless : (apps : List (List ℕ)) (app : List ℕ) → is_app_name app ≡ false → AreNamed (apps ++ app ∷ []) → ⊥
not_nameless apps app other n =
    let last = (and_parts (list_all is_app_name apps) (list_all is_app_name (app ∷ [])) (sym (list_all-append is_app_name apps (app ∷ [])) ∙ n.named)).1 in
    let name = (and_parts (is_app_name app) true last).0 in
    cc (name, other)

-- one name more of the first ones
pub one_more_name : (names : List (Bor (List ℕ))) (n : ℕ) (d : Bor (List ℕ)) (xs : List (List ℕ)) → n < length names → xs ≡ map (λ (name : Bor (List ℕ)). name.now) (take n names) → xs ++ (get_or names n d).now ∷ [] ≡ map (λ (name : Bor (List ℕ)). name.now) (take (n + 1) names)
one_more_name names n d xs within are =
    let now : Bor (List ℕ) → List ℕ = λ name. name.now in
    let next : suc n ≡ n + 1 = omega arith in
    ap (λ (l : List (List ℕ)). l ++ (get_or names n d).now ∷ []) are
    ∙ (sym (map-append now (take n names) (get_or names n d ∷ []))
    ∙ (ap (λ (l : List (Bor (List ℕ))). map now l) (sym (take-suc names n d within))
    ∙ ap (λ (k : ℕ). map now (take k names)) next))

-- the first so many of names that are so
pub first_are : (names : List (Bor (List ℕ))) (n : ℕ) (xs : List (List ℕ)) → xs ≡ map (λ (name : Bor (List ℕ)). name.now) (take n names) → AreNamed (map (λ (name : Bor (List ℕ)). name.now) names) → AreNamed xs
first_are names n xs are all =
    let now : Bor (List ℕ) → List ℕ = λ name. name.now in
    let whole : map now (take n names) ++ map now (drop n names) ≡ map now names =
    sym (map-append now (take n names) (drop n names)) ∙ ap (λ (l : List (Bor (List ℕ))). map now l) (take-append-drop n names) in
    subst AreNamed (sym are) (front_are (map now (take n names)) (map now (drop n names)) (subst AreNamed (sym whole) all))
