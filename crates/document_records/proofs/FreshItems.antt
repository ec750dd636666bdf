-- Items that differ, taken one after another: none stands among those before it.
use Rattle.std.proofs.Common.{◌≡◌, ◌+◌, ◌<◌, ◌||◌, ℕ, zero, suc, List, [], ◌∷◌, ◌++◌, length, take, get_or, map, Bool, true, false, nat_eq, cond, refl, sym, ap, ◌∙◌, arith}
use Rattle.std.specs.List.{filter, list_any, IsDistinct, AllByRecursion}
use Rattle.std.proofs.lemmas.Bool.Decides.{nat_tests}
use Rattle.std.proofs.lemmas.List.{take_more}
use Rattle.portal_base.specs.Names.{is_same}
use Rattle.portal_model.specs.declared.state.Document.{Document}
use Rattle.portal_model.specs.Applications.{numbered}
use Rattle.portal_model.specs.Valid.{is_numbered}
use Rattle.document_records.specs.DocumentIndex.{live_numbers}
use Rattle.portal_model.proofs.TripleOrder.{is_same-sym}

-- whether some item has a property is told by any test that gives the same
pub any_same : {X : Type 0} (p q : X → Bool) → ((x : X) → p x ≡ q x) → (xs : List X) → list_any p xs ≡ list_any q xs
any_same p q e [] = refl
any_same p q e (x ∷ xs) = λ i. e x i || any_same p q e xs i

pub any-mapped : {X Y : Type 0} (p : Y → Bool) (f : X → Y) (xs : List X) → list_any p (map f xs) ≡ list_any (λ x. p (f x)) xs
any-mapped p f [] = refl
any-mapped p f (x ∷ xs) = ap (λ (b : Bool). p (f x) || b) (any-mapped p f xs)

module _ {X : Type 0} (same : X → X → Bool) where
  all_at : (y : X) (xs : List X) (i : ℕ) (x : X) → i < length xs → x ≡ get_or xs i x → AllByRecursion (λ z. same y z ≡ false) xs → same y x ≡ false
  all_at y [] i x l e h = absurd (omega arith)
  all_at y (z ∷ zs) zero x l e h = ap (same y) e ∙ h.0
  all_at y (z ∷ zs) (suc i) x l e h = all_at y zs i x (omega arith) e h.1

  pub fresh_at : (xs : List X) (i : ℕ) (x : X) → i < length xs → x ≡ get_or xs i x → IsDistinct same xs → list_any (λ y. same y x) (take i xs) ≡ false
  unfolding IsDistinct
  fresh_at [] i x l e d = absurd (omega arith)
  fresh_at (y ∷ ys) zero x l e d = refl
  fresh_at (y ∷ ys) (suc i) x l e d = rw (all_at y ys i x (omega arith) e d.0) (fresh_at ys i x (omega arith) e d.1)

module _ {X K : Type 0} (f : X → K) (same : K → K → Bool) where
  all_of_mapped : (k : K) (xs : List X) → AllByRecursion (λ y. same k y ≡ false) (map f xs) → AllByRecursion (λ y. same k (f y) ≡ false) xs
  all_of_mapped k [] h = tt
  all_of_mapped k (x ∷ xs) h = (h.0, all_of_mapped k xs h.1)

  differ_of_mapped : (xs : List X) → IsDistinct same (map f xs) → IsDistinct (λ a b. same (f a) (f b)) xs
  unfolding IsDistinct
  differ_of_mapped [] h = tt
  differ_of_mapped (x ∷ xs) h = (all_of_mapped (f x) xs h.0, differ_of_mapped xs h.1)

pub not_before : (ds : List Document) (i : ℕ) (d : Document) → i < length ds → d ≡ get_or ds i d → IsDistinct nat_eq (map (λ (x : Document). x.id.number) ds) →
    list_any (nat_eq d.id.number) (map (λ (x : Document). x.id.number) (take i ds)) ≡ false
not_before ds i d l e h =
    any-mapped (nat_eq d.id.number) (λ (x : Document). x.id.number) (take i ds)
    ∙ (any_same (λ (x : Document). nat_eq d.id.number x.id.number) (λ (x : Document). nat_eq x.id.number d.id.number) (λ x. turned d.id.number x.id.number) (take i ds)
    ∙ fresh_at (λ (a b : Document). nat_eq a.id.number b.id.number) ds i d l e (differ_of_mapped (λ (x : Document). x.id.number) nat_eq ds h))
  where
    turned : (a b : ℕ) → nat_eq a b ≡ nat_eq b a
    turned a b = grind (arith, nat_tests)

pub not_numbered : (names : List (List ℕ)) (i : ℕ) (name : List ℕ) → i < length names → name ≡ get_or names i name → IsDistinct is_same names → is_numbered (take i names) name ≡ false
not_numbered names i name l e d = any_same (is_same name) (λ y. is_same y name) (λ y. is_same-sym name y) (take i names) ∙ fresh_at is_same names i name l e d

pub numbered_more : (names : List (List ℕ)) (i : ℕ) (name : List ℕ) → i < length names → name ≡ get_or names i name → IsDistinct is_same names → numbered (take i names) name ≡ take (i + 1) names
numbered_more names i name l e d =
    ap (λ (b : Bool). cond b (take i names) (take i names ++ name ∷ [])) (not_numbered names i name l e d)
    ∙ (ap (λ (x : List ℕ). take i names ++ x ∷ []) e ∙ sym (take_more names i name l))

-- those that a filter leaves differ too
differ-behind : (p : Document → Bool) (n : ℕ) (ds : List Document) → AllByRecursion (λ m. nat_eq n m ≡ false) (live_numbers ds) → AllByRecursion (λ m. nat_eq n m ≡ false) (live_numbers (filter p ds))
differ-behind p n [] h = tt
differ-behind p n (d ∷ ds) h = elim (p d) as (λ b. AllByRecursion (λ m. nat_eq n m ≡ false) (live_numbers (cond b (d ∷ filter p ds) (filter p ds)))) [
  | true ↦ (h.0, differ-behind p n ds h.1)
  | false ↦ differ-behind p n ds h.1
]

pub differ-filter : (p : Document → Bool) (ds : List Document) →
    IsDistinct nat_eq (live_numbers ds) → IsDistinct nat_eq (live_numbers (filter p ds))
unfolding IsDistinct
differ-filter p [] h = tt
differ-filter p (d ∷ ds) h = elim (p d) as (λ b. IsDistinct nat_eq (live_numbers (cond b (d ∷ filter p ds) (filter p ds)))) [
  | true ↦ (differ-behind p d.id.number ds h.0, differ-filter p ds h.1)
  | false ↦ differ-filter p ds h.1
]
