-- The identifiers of a table, which differ: once they are sorted they are those in byte order.
use Rattle.std.proofs.Common.{◌≡◌, ℕ, suc, ◌<◌, ◌≤◌, List, [], ◌∷◌, length, get_or, map, Bool, true, false, ◌&&◌, cond, refl, sym, ap, subst, ◌∙◌, arith}
use Rattle.std.specs.Cmp.Lexicographic.{slice_cmp}
use Rattle.std.specs.List.{filter, list_all, IsDistinct, AllByRecursion}
use Rattle.std.specs.List.Sorted.{IsPermutation, IsSortedBy}
use Rattle.std.specs.Ordering.{nat_cmp, is_lt}
use Rattle.std.proofs.lemmas.Bool.Decides.{nat_tests}
use Rattle.std.proofs.lemmas.Cmp.{nat_list_cmp_total, same_from_slice_cmp}
use Rattle.std.proofs.lemmas.List.Sorted.{list_any-IsPermutation, ranks_by, sorted_far}
use Rattle.std.proofs.lemmas.Map.Keys.{IsDistinct-IsPermutation}
use Rattle.portal_base.specs.Names.{is_same}
use Rattle.portal_model.specs.Ordered.{bytes_less, is_rising, put_all}
use Rattle.portal_model.specs.Store.{Entries, ids_of, is_in_table}
use Rattle.portal_model.specs.Valid.{same_entry}
use Rattle.portal_model.specs.declared.store.StoredEntry.{StoredEntry}
use Rattle.portal_model.proofs.RisingLists.{any-put_all, rising-put_all, same_items}
use Rattle.portal_model.proofs.TripleOrder.{is_same-eq, is_same-sym}
use Rattle.permission_table.specs.Keys.{key_less}
use Rattle.permission_table.specs.Tables.{AreEntries, ids_in_table}
use Rattle.permission_table.proofs.InOrder.{ahead, bytes, same-way}

-- ---- a sorted list rises

pub compared : (a b : List ℕ) → key_less a b ≡ bytes_less a b
compared a b = same_from_slice_cmp nat_cmp is_lt bytes_less refl (λ _ _. refl) (λ _ _. refl) (λ x y xs ys o h. grind (arith, nat_tests)) a b (slice_cmp nat_cmp a b) refl

comes-first : (a b : List ℕ) → key_less b a ≡ false → is_same a b ≡ false → bytes_less a b ≡ true
comes-first a b h d = ahead a b (is_same-sym b a ∙ d) (sym (compared b a) ∙ h)

all-ahead : (a : List ℕ) (bs : List (List ℕ)) → ((k : ℕ) → k < length bs → key_less (get_or bs k a) a ≡ false) → AllByRecursion (λ b. is_same a b ≡ false) bs → list_all (bytes_less a) bs ≡ true
all-ahead a [] h d = refl
all-ahead a (b ∷ bs) h d =
    let first : bytes_less a b ≡ true = comes-first a b (h 0 (omega arith)) d.0 in
    let rest : list_all (bytes_less a) bs ≡ true = all-ahead a bs (λ k l. h (suc k) (omega arith)) d.1 in
    grind arith

abbrev IsFar : List (List ℕ) → Type 0
IsFar ts = (i j : ℕ) (d : List ℕ) → i ≤ j → j < length ts → key_less (get_or ts j d) (get_or ts i d) ≡ false

rises : (ts : List (List ℕ)) → IsFar ts → IsDistinct is_same ts → is_rising bytes_less ts ≡ true
unfolding IsDistinct
rises [] up d = refl
rises (t ∷ ts) up d =
    let first : list_all (bytes_less t) ts ≡ true = all-ahead t ts (λ k l. up 0 (suc k) t (omega arith) (omega arith)) d.0 in
    let rest : is_rising bytes_less ts ≡ true = rises ts (λ i j e l m. up (suc i) (suc j) e (omega arith) (omega arith)) d.1 in
    grind arith

far : (ts : List (List ℕ)) → IsSortedBy key_less ts → IsFar ts
far ts up = sorted_far key_less (ranks_by nat_list_cmp_total (λ (t : List ℕ). t)) ts up

sorted-is : (xs ys : List (List ℕ)) → IsPermutation xs ys → IsSortedBy key_less ys → IsDistinct is_same xs → ys ≡ put_all bytes_less xs
sorted-is xs ys p up d =
    same_items bytes_less is_same bytes ys (put_all bytes_less xs)
    (rises ys (far ys up) (IsDistinct-IsPermutation is_same is_same-sym xs ys p d))
    (rising-put_all bytes_less is_same (λ (t : List ℕ). t) bytes xs)
    (λ k. sym (list_any-IsPermutation (λ t. is_same t k) xs ys p) ∙ sym (any-put_all bytes_less is_same bytes (λ t. is_same t k) xs))

-- ---- entries of one table differ in identifier

module _ (table : List ℕ) where
  ids-apart : (e f : StoredEntry) → is_in_table table e ≡ true → is_in_table table f ≡ true → same_entry e f ≡ false → is_same e.id f.id ≡ false
  ids-apart e f h k d =
      let one : f.table ≡ e.table = is_same-eq f.table table k ∙ sym (is_same-eq e.table table h) in
      ap (λ (b : Bool). b && is_same e.id f.id) (sym (same-way f.table e.table one)) ∙ d

  none-same : (e : StoredEntry) (es : Entries) → is_in_table table e ≡ true → AllByRecursion (λ f. same_entry e f ≡ false) es → AllByRecursion (λ t. is_same e.id t ≡ false) (ids_in_table table es)
  none-same e [] h d = tt
  none-same e (f ∷ fs) h d = step (is_in_table table f) refl (none-same e fs h d.1)
    where
      step : (b : Bool) → is_in_table table f ≡ b → AllByRecursion (λ t. is_same e.id t ≡ false) (ids_in_table table fs)
          → AllByRecursion (λ t. is_same e.id t ≡ false) (map (λ g. g.id) (cond b (f ∷ filter (is_in_table table) fs) (filter (is_in_table table) fs)))
      step true k more = (ids-apart e f h k d.0, more)
      step false k more = more

  ids-differ : (es : Entries) → IsDistinct same_entry es → IsDistinct is_same (ids_in_table table es)
  unfolding IsDistinct
  ids-differ [] d = tt
  ids-differ (e ∷ es) d = step (is_in_table table e) refl (ids-differ es d.1)
    where
      step : (b : Bool) → is_in_table table e ≡ b → IsDistinct is_same (ids_in_table table es)
          → IsDistinct is_same (map (λ f. f.id) (cond b (e ∷ filter (is_in_table table) es) (filter (is_in_table table) es)))
      step true k more = (none-same e es k d.0, more)
      step false k more = more

  pub sorted-ids : (entries : Entries) (ids sorted : List (List ℕ)) → AreEntries entries → ids ≡ ids_in_table table entries → IsPermutation ids sorted → IsSortedBy key_less sorted → sorted ≡ ids_of table entries
  sorted-ids entries ids sorted k e p up =
      sorted-is ids sorted p up (subst (λ (ts : List (List ℕ)). IsDistinct is_same ts) (sym e) (ids-differ entries k.differ))
      ∙ ap (put_all bytes_less) e
