-- What lies in the own folder of an application.
use Rattle.std.proofs.Common.{◌≡◌, ◌⊎◌, inl, inr, ℕ, ◌<◌, ◌≤◌, List, [], ◌∷◌, ◌++◌, length, take, drop, get_or, Bool, true, false, ◌||◌, ◌==◌, nat_eq, codes, refl, sym, ap, ◌∙◌, subst, arith, append_assoc}
use Rattle.std.proofs.lemmas.Bool.Decides.{nat_tests, Decides-eqb}
use Rattle.std.proofs.lemmas.List.{append-nil, take-append-drop}
use Rattle.std.proofs.Math.Seq.{take-append_seam, drop-append_seam}
use Rattle.std.proofs.lemmas.Slice.Eq.{bytes_eq-Decides, starts_is}
use Rattle.std.specs.List.{starts_with}
use Rattle.portal_base.specs.Names.{is_same, own_folder, is_in_own_folder}

abbrev pub apps : List ℕ
apps = codes "/app/"

abbrev pub folder : List ℕ → List ℕ
folder app = apps ++ app

pub same_is : (xs ys : List ℕ) → is_same xs ys ≡ true → xs ≡ ys
same_is xs ys = (bytes_eq-Decides xs ys).0

pub is_same_as : (xs ys : List ℕ) → xs ≡ ys → is_same xs ys ≡ true
is_same_as xs ys = (bytes_eq-Decides xs ys).1

-- what stands behind the folder's name: nothing, or a slash and more
pub data Opens : List ℕ → Type 0 where
  closed : Opens []
  opened : (rest : List ℕ) → Opens (47 ∷ rest)

either : (x y : Bool) → (x || y) ≡ true → (x ≡ true) ⊎ (y ≡ true)
either true y e = inl refl
either false y e = inr e

pub is_in : (app path : List ℕ) → is_in_own_folder app path ≡ true → (rest : List ℕ) × Opens rest × (path ≡ apps ++ (app ++ rest))
unfolding is_in_own_folder own_folder
is_in app path e = by (either (is_same path (folder app)) (starts_with nat_eq path (folder app ++ (47 ∷ []))) e)
  where
    by : (is_same path (folder app) ≡ true) ⊎ (starts_with nat_eq path (folder app ++ (47 ∷ [])) ≡ true) → (rest : List ℕ) × Opens rest × (path ≡ apps ++ (app ++ rest))
    by (inl h) = ([], closed, same_is path (folder app) h ∙ ap (λ (x : List ℕ). apps ++ x) (sym (append-nil app)))
    by (inr h) =
        let n : List ℕ = folder app ++ (47 ∷ []) in
        let s = (starts_is Decides-eqb path n (starts_with nat_eq path n) refl).0 h in
        let rest : List ℕ = drop (length n) path in
        (47 ∷ rest, opened rest, s ∙ append_assoc (folder app) (47 ∷ []) rest ∙ append_assoc apps app (47 ∷ rest))

or_true : (x : Bool) → (x || true) ≡ true
or_true true = refl
or_true false = refl

pub from_is : (rest : List ℕ) → Opens rest → (app path : List ℕ) → path ≡ apps ++ (app ++ rest) → is_in_own_folder app path ≡ true
unfolding is_in_own_folder own_folder
from_is rest closed app path e = ap (λ (x : Bool). x || starts_with nat_eq path (folder app ++ (47 ∷ []))) (is_same_as path (folder app) (e ∙ ap (λ (x : List ℕ). apps ++ x) (append-nil app)))
from_is rest (opened more) app path e =
    let n : List ℕ = folder app ++ (47 ∷ []) in
    let s = (starts_is Decides-eqb path n (starts_with nat_eq path n) refl).1 more (e ∙ sym (append_assoc apps app (47 ∷ more)) ∙ sym (append_assoc (folder app) (47 ∷ []) more)) in
    ap (λ (x : Bool). is_same path (folder app) || x) s ∙ or_true (is_same path (folder app))

first : (other : List ℕ) → Opens other → 1 ≤ length other → (get_or other 0 0 == 47) ≡ true
first other closed n = absurd (omega arith)
first other (opened more) n = refl

opens : (other : List ℕ) → 1 ≤ length other → (get_or other 0 0 == 47) ≡ true → Opens other
opens [] n e = absurd (omega arith)
opens (x ∷ xs) n e = let y : x ≡ 47 = grind (arith, nat_tests) in subst (λ (z : ℕ). Opens (z ∷ xs)) (sym y) (opened xs)

false_unless : (x : Bool) → (x ≡ true → ⊥) → x ≡ false
false_unless true h = absurd (h refl)
false_unless false h = refl

front_same : (f rest path : List ℕ) → path ≡ f ++ rest → is_same (take (length f) path) f ≡ true
front_same f rest path e = is_same_as (take (length f) path) f (ap (take (length f)) e ∙ take-append_seam f rest)

back_same : (f rest path : List ℕ) → path ≡ f ++ rest → drop (length f) path ≡ rest
back_same f rest path e = ap (drop (length f)) e ∙ drop-append_seam f rest

whole : (f path back : List ℕ) → is_same (take (length f) path) f ≡ true → back ≡ drop (length f) path → path ≡ f ++ back
whole f path back h e =
    sym (take-append-drop (length f) path) ∙ (λ i. same_is (take (length f) path) f h i ++ sym e i)

pub elsewhere : (app path : List ℕ) → is_same (take (length apps) path) apps ≡ false → is_in_own_folder app path ≡ false
elsewhere app path h = false_unless (is_in_own_folder app path) (λ e.
    let p = is_in app path e in
    let t : is_same (take (length apps) path) apps ≡ true = front_same apps (app ++ p.0) path p.2 in
    let wrong : true ≡ false = sym t ∙ h in
    cc)

module _ (app path below : List ℕ) (h : is_same (take (length apps) path) apps ≡ true) (b : below ≡ drop (length apps) path) where
  pub of_another : is_same (take (length app) below) app ≡ false → is_in_own_folder app path ≡ false
  of_another k = false_unless (is_in_own_folder app path) (λ e.
      let p = is_in app path e in
      let t : is_same (take (length app) below) app ≡ true = front_same app p.0 below (b ∙ back_same apps (app ++ p.0) path p.2) in
      let wrong : true ≡ false = sym t ∙ k in
      cc)

  module _ (rest : List ℕ) (k : is_same (take (length app) below) app ≡ true) (r : rest ≡ drop (length app) below) where
    path_is : path ≡ apps ++ (app ++ rest)
    path_is = whole apps path below h b ∙ ap (λ (x : List ℕ). apps ++ x) (whole app below rest k r)

    pub at_folder : rest ≡ [] → is_in_own_folder app path ≡ true
    at_folder e = from_is [] closed app path (path_is ∙ ap (λ (x : List ℕ). apps ++ (app ++ x)) e)

    rest_is : (other : List ℕ) → path ≡ apps ++ (app ++ other) → rest ≡ other
    rest_is other e = r ∙ back_same app other below (b ∙ back_same apps (app ++ other) path e)

    pub past_folder : 1 ≤ length rest → (get_or rest 0 0 == 47) ≡ is_in_own_folder app path
    past_folder l = by rest refl (get_or rest 0 0 == 47) refl (is_in_own_folder app path) refl
      where
        by : (s : List ℕ) → rest ≡ s → (x : Bool) → (get_or rest 0 0 == 47) ≡ x → (y : Bool) → is_in_own_folder app path ≡ y → x ≡ y
        by s q true e true f = refl
        by s q false e false f = refl
        by s q true e false f = let wrong : true ≡ false = sym (from_is rest (opens rest l e) app path path_is) ∙ f in cc
        by s q false e true f =
            let p = is_in app path f in
            let same : rest ≡ p.0 = rest_is p.0 p.2 in
            let long : 1 ≤ length p.0 = subst (λ (z : List ℕ). 1 ≤ length z) same l in
            let yes : (get_or rest 0 0 == 47) ≡ true = ap (λ (z : List ℕ). get_or z 0 0 == 47) same ∙ first p.0 p.1 long in
            let wrong : true ≡ false = sym yes ∙ e in
            cc

pub empty_is : (xs : List ℕ) → length xs < 1 → xs ≡ []
empty_is [] l = refl
empty_is (x ∷ xs) l = absurd (omega arith)
