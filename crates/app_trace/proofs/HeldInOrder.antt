-- The documents in which an application has a right, sorted by number, are those of its view.
use Rattle.std.proofs.Common.{◌≡◌, ◌==◌, ◌≤◌, ◌<◌, ℕ, suc, length, get_or, List, [], ◌∷◌, ◌++◌, map, find, filter, All, Bool, true, false, cond, nat_eq, nat_lt, Option, Some, None, option_map, refl, sym, ap, subst, ◌∙◌, arith}
use Rattle.std.specs.List.{list_all, list_any, IsDistinct, AllByRecursion}
use Rattle.std.specs.List.Sorted.{IsPermutation, IsSortedBy}
use Rattle.std.specs.Ordering.{nat_cmp, is_lt}
use Rattle.std.proofs.lemmas.Bool.Decides.{nat_tests}
use Rattle.std.proofs.lemmas.Cmp.{nat_cmp_total}
use Rattle.std.proofs.lemmas.List.Elements.{All-from_recursion, All-head, All-tail}
use Rattle.std.proofs.lemmas.List.Sorted.{All-permutation, IsPermutation-map, list_any-IsPermutation, ranks_by, sorted_far}
use Rattle.std.proofs.lemmas.Map.Keys.{IsDistinct-IsPermutation}
use Rattle.portal_model.specs.declared.opening.OpeningDocument.{OpeningDocument}
use Rattle.portal_model.specs.declared.state.Triple.{Triple}
use Rattle.portal_model.specs.Opening.{document_kept}
use Rattle.portal_model.specs.Ordered.{is_rising}
use Rattle.portal_model.specs.State.{held_of}
use Rattle.portal_model.proofs.ListLookups.{find-map, found_passes}
use Rattle.rights_rule.specs.Rights.{RightSet, holds_any}
use Rattle.app_world.specs.View as view
use Rattle.app_world.specs.View.{found_document, held_document, held_documents, is_held, lower, number_of}
use Rattle.app_world.proofs.DocumentLaws.{documents-are, documents-found}
use Rattle.app_world.proofs.Found.{find-put_all}
use Rattle.app_world.proofs.Orders.{numbers}
use Rattle.app_trace.specs.declared.view.HeldDocument.{HeldDocument}
use Rattle.app_trace.specs.Held.{held_among, number_less}
use Rattle.app_trace.specs.Told.{held_told}

-- ---- what is found does not depend on the order, where at most one item passes

module _ {X : Type 0} (p : X → Bool) where
  none_passes : (xs : List X) → find p xs ≡ None → list_any p xs ≡ false
  none_passes [] e = refl
  none_passes (x ∷ xs) e = grind (arith, none_passes xs)

  none_found : (xs : List X) → list_any p xs ≡ false → find p xs ≡ None
  none_found [] e = refl
  none_found (x ∷ xs) e = grind (arith, none_found xs)

  found_item : (P : X → Type 0) (xs : List X) (y : X) → All P xs → find p xs ≡ Some y → P y
  found_item P [] y a e = cc
  found_item P (x ∷ xs) y a e = by_first (p x) e (λ f. found_item P xs y (All-tail P x xs a) f)
    where
      by_first : (b : Bool) → cond b (Some x) (find p xs) ≡ Some y → (find p xs ≡ Some y → P y) → P y
      by_first true f more = let same : x ≡ y = cc in subst P same (All-head P x xs a)
      by_first false f more = more f

  abbrev passing : Option X → X → Type 0
  passing o x = p x ≡ true → o ≡ Some x

  found-shuffled : (xs ys : List X) → IsPermutation xs ys → All (passing (find p xs)) xs → find p ys ≡ find p xs
  found-shuffled xs ys s one = by_found (find p ys) refl
    where
      by_found : (o : Option X) → find p ys ≡ o → o ≡ find p xs
      by_found None e = sym (none_found xs (list_any-IsPermutation p xs ys s ∙ none_passes ys e))
      by_found (Some y) e = sym (found_item (passing (find p xs)) ys y (All-permutation (passing (find p xs)) xs ys s one) e (found_passes p ys y e))

same-flip : (a b : ℕ) → nat_eq a b ≡ nat_eq b a
same-flip a b = grind (arith, nat_tests)

numbers_apart : (a b k : ℕ) → nat_eq a b ≡ false → nat_eq b k ≡ true → nat_eq a k ≡ false
numbers_apart a b k h e = grind (arith, nat_tests)

module _ {X K : Type 0} (same : K → K → Bool) (apart_from : (a b k : K) → same a b ≡ false → same b k ≡ true → same a k ≡ false) (key : X → K) where
  abbrev pub keyed : K → X → Bool
  keyed k x = same (key x) k

  behind : (k : K) (o : Option X) (x : X) (zs : List X) → AllByRecursion (λ m. same (key x) m ≡ false) (map key zs) → AllByRecursion (passing (keyed k) o) zs → AllByRecursion (passing (keyed k) (cond (keyed k x) (Some x) o)) zs
  behind k o x [] h q = tt
  behind k o x (z ∷ zs) h q = (λ e. rw (apart_from (key x) (key z) k h.0 e) (q.0 e), behind k o x zs h.1 q.1)

  one_each : (k : K) (xs : List X) → IsDistinct same (map key xs) → AllByRecursion (passing (keyed k) (find (keyed k) xs)) xs
  unfolding IsDistinct
  one_each k [] h = tt
  one_each k (x ∷ xs) h = (λ e. rw e refl, behind k (find (keyed k) xs) x xs h.0 (one_each k xs h.1))

  pub keyed-shuffled : (k : K) (xs ys : List X) → IsPermutation xs ys → IsDistinct same (map key xs) → find (keyed k) ys ≡ find (keyed k) xs
  keyed-shuffled k xs ys s h = found-shuffled (keyed k) xs ys s (All-from_recursion (passing (keyed k) (find (keyed k) xs)) xs (one_each k xs h))

-- ---- a sorted list rises

abbrev number_in : HeldDocument → ℕ
number_in d = d.document.id.number

comes_first : (a b : ℕ) → is_lt (nat_cmp b a) ≡ false → nat_eq a b ≡ false → nat_lt a b ≡ true
comes_first a b h e = grind (arith, nat_tests)

all_above : (d : HeldDocument) (ds : List HeldDocument) → ((k : ℕ) → k < length ds → number_less (get_or ds k d) d ≡ false) → AllByRecursion (λ m. nat_eq (number_in d) m ≡ false) (map number_in ds) →
    list_all (lower (held_told d)) (map held_told ds) ≡ true
all_above d [] h a = refl
all_above d (e ∷ es) h a =
    let first : nat_lt (number_in d) (number_in e) ≡ true = comes_first (number_in d) (number_in e) (h 0 (omega arith)) a.0 in
    let rest : list_all (lower (held_told d)) (map held_told es) ≡ true = all_above d es (λ k l. h (suc k) (omega arith)) a.1 in
    grind arith

abbrev IsFar : List HeldDocument → Type 0
IsFar ds = (i j : ℕ) (d : HeldDocument) → i ≤ j → j < length ds → number_less (get_or ds j d) (get_or ds i d) ≡ false

rises : (ds : List HeldDocument) → IsFar ds → IsDistinct nat_eq (map number_in ds) → is_rising lower (map held_told ds) ≡ true
unfolding IsDistinct
rises [] up h = refl
rises (d ∷ ds) up h =
    let first : list_all (lower (held_told d)) (map held_told ds) ≡ true = all_above d ds (λ k l. up 0 (suc k) d (omega arith) (omega arith)) h.0 in
    let rest : is_rising lower (map held_told ds) ≡ true = rises ds (λ i j e l m. up (suc i) (suc j) e (omega arith) (omega arith)) h.1 in
    grind arith

far : (ds : List HeldDocument) → IsSortedBy number_less ds → IsFar ds
far ds up = sorted_far number_less (ranks_by nat_cmp_total number_in) ds up

-- ---- what was collected

module _ (rights : List Triple) (app : List ℕ) where
  abbrev held : ℕ → RightSet
  held n = held_of rights app n

  told-among : (items : List OpeningDocument) → map held_told (held_among rights app items) ≡ filter is_held (map (held_document held) (map document_kept items))
  told-among [] = refl
  told-among (d ∷ ds) = by_rights (holds_any (held d.kept.number)) (told-among ds)
    where
      one : HeldDocument
      one = record { document = document_kept d; rights = held d.kept.number }

      by_rights : (b : Bool) → map held_told (held_among rights app ds) ≡ filter is_held (map (held_document held) (map document_kept ds)) →
          map held_told (cond b (one ∷ []) [] ++ held_among rights app ds)
          ≡ cond b (held_told one ∷ filter is_held (map (held_document held) (map document_kept ds))) (filter is_held (map (held_document held) (map document_kept ds)))
      by_rights true m = ap (λ (xs : List view.HeldDocument). held_told one ∷ xs) m
      by_rights false m = m

  apart_among : (n : ℕ) (items : List OpeningDocument) → AllByRecursion (λ m. nat_eq n m ≡ false) (map (λ (d : OpeningDocument). d.kept.number) items) → AllByRecursion (λ m. nat_eq n m ≡ false) (map number_in (held_among rights app items))
  apart_among n [] h = tt
  apart_among n (d ∷ ds) h = elim (holds_any (held d.kept.number)) as (λ b. AllByRecursion (λ m. nat_eq n m ≡ false) (map number_in (cond b (record { document = document_kept d; rights = held d.kept.number } ∷ []) [] ++ held_among rights app ds))) [
    | true ↦ (h.0, apart_among n ds h.1)
    | false ↦ apart_among n ds h.1
  ]

  differ_among : (items : List OpeningDocument) → IsDistinct nat_eq (map (λ (d : OpeningDocument). d.kept.number) items) → IsDistinct nat_eq (map number_in (held_among rights app items))
  unfolding IsDistinct
  differ_among [] h = tt
  differ_among (d ∷ ds) h = elim (holds_any (held d.kept.number)) as (λ b. IsDistinct nat_eq (map number_in (cond b (record { document = document_kept d; rights = held d.kept.number } ∷ []) [] ++ held_among rights app ds))) [
    | true ↦ (apart_among d.kept.number ds h.0, differ_among ds h.1)
    | false ↦ differ_among ds h.1
  ]

  found-told : (n : ℕ) (ds : List HeldDocument) → found_document (map held_told ds) n ≡ option_map held_told (find (keyed nat_eq numbers_apart number_in n) ds)
  found-told n ds = find-map (λ d. number_of d == n) held_told ds

  -- the collected documents, sorted by number
  pub sorted-held : (items : List OpeningDocument) (among sorted : List HeldDocument) → among ≡ held_among rights app items → IsDistinct nat_eq (map (λ (d : OpeningDocument). d.kept.number) items) →
      IsPermutation among sorted → IsSortedBy number_less sorted → map held_told sorted ≡ held_documents held (map document_kept items)
  sorted-held items among sorted e h s up =
      let differ : IsDistinct nat_eq (map number_in among) = subst (λ (ds : List HeldDocument). IsDistinct nat_eq (map number_in ds)) (sym e) (differ_among items h) in
      let apart : IsDistinct nat_eq (map number_in sorted) = IsDistinct-IsPermutation nat_eq same-flip (map number_in among) (map number_in sorted) (IsPermutation-map number_in among sorted s) differ in
      documents-are held (map document_kept items) (map held_told sorted) (rises sorted (far sorted up) apart) (λ n.
      found-told n sorted
      ∙ (ap (option_map held_told) (keyed-shuffled nat_eq numbers_apart number_in n among sorted s differ)
      ∙ (sym (found-told n among)
      ∙ (ap (λ (ds : List HeldDocument). found_document (map held_told ds) n) e
      ∙ (ap (λ (ds : List view.HeldDocument). found_document ds n) (told-among items)
      ∙ (sym (find-put_all _ _ number_of numbers n (filter is_held (map (held_document held) (map document_kept items))))
      ∙ documents-found held n (map document_kept items)))))))
