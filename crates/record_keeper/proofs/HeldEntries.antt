-- The entries that good records keep differ, and their rows stand in order.
use Rattle.std.proofs.Common.{◌≡◌, ℕ, List, [], ◌∷◌, ◌++◌, map, Bool, true, false, not, ◌&&◌, ◌||◌, refl, sym, ap, subst, ◌∙◌, arith, Less, nat_cmp}
use Rattle.std.specs.Cmp.Lexicographic.{slice_cmp, nat_list_cmp_total}
use Rattle.std.specs.List.{AllByRecursion, IsDistinct, list_all, list_any}
use Rattle.std.specs.Ordering.{is_lt}
use Rattle.std.proofs.lemmas.Bool.Decides.{nat_tests}
use Rattle.std.proofs.lemmas.Cmp.{same_from_slice_cmp}
use Rattle.std.proofs.lemmas.List.Folds.{list_any-append}
use Rattle.portal_base.specs.Names.{is_same}
use Rattle.portal_model.specs.Ordered.{bytes_less, is_rising}
use Rattle.portal_model.specs.Rows.{are_rows, has_names, row_less}
use Rattle.portal_model.specs.Store.{Entries, record_of}
use Rattle.portal_model.specs.Valid.{same_entry}
use Rattle.portal_model.specs.declared.records.EntryRecord.{EntryRecord}
use Rattle.portal_model.specs.declared.records.Row.{Row}
use Rattle.portal_model.specs.declared.store.StoredEntry.{StoredEntry}
use Rattle.record_keeper.specs.BadRecords.{AllGood, EachBehind, IsGoodEntry}
use Rattle.record_keeper.specs.KeptEntries.{KeepEntries}
use Rattle.record_keeper.specs.SoundRecords.{IsRising, is_empty_row}

-- ---- items that are good behind those before them

module _ {X : Type 0} (Good : List X → X → Type 0) (same : X → X → Bool) (new : (earlier : List X) (x : X) → Good earlier x → list_any (λ e. same e x) earlier ≡ false) where
  fresh : (d x : X) (earlier : List X) (b : Bool) → same d x ≡ b → (same d x ≡ true → list_any (λ e. same e x) earlier ≡ true) → list_any (λ e. same e x) earlier ≡ false → same d x ≡ false
  fresh d x earlier true e known none = let some : list_any (λ e. same e x) earlier ≡ true = known e in cc (some, none)
  fresh d x earlier false e known none = e

  still : (x y : X) (earlier : List X) → list_any (λ e. same e x) earlier ≡ true → list_any (λ e. same e x) (earlier ++ (y ∷ [])) ≡ true
  still x y earlier h = list_any-append (λ e. same e x) earlier (y ∷ []) ∙ ap (λ (b : Bool). b || (same y x || false)) h

  last : (d x : X) (earlier : List X) → same d x ≡ true → list_any (λ e. same e x) (earlier ++ (d ∷ [])) ≡ true
  last d x earlier h = list_any-append (λ e. same e x) earlier (d ∷ []) ∙ grind (arith, h)

  later : (d : X) (xs earlier : List X) → ((x : X) → same d x ≡ true → list_any (λ e. same e x) earlier ≡ true) → EachBehind Good earlier xs → AllByRecursion (λ y. same d y ≡ false) xs
  later d [] earlier known all = tt
  later d (x ∷ xs) earlier known all = (fresh d x earlier (same d x) refl (known x) (new earlier x all.0), later d xs (earlier ++ (x ∷ [])) (λ y e. still y x earlier (known y e)) all.1)

  pub each_differs : (xs earlier : List X) → EachBehind Good earlier xs → IsDistinct same xs
  unfolding IsDistinct
  each_differs [] earlier all = tt
  each_differs (x ∷ xs) earlier all = (later x xs (earlier ++ (x ∷ [])) (λ y e. last x y earlier e) all.1, each_differs xs (earlier ++ (x ∷ [])) all.1)

-- ---- entries

abbrev same_record : EntryRecord → EntryRecord → Bool
same_record a b = is_same a.table b.table && is_same a.id b.id

none_same : (e : StoredEntry) (entries : Entries) → AllByRecursion (λ r. same_record (record_of e) r ≡ false) (map record_of entries) → AllByRecursion (λ x. same_entry e x ≡ false) entries
none_same e [] d = tt
none_same e (x ∷ xs) d = (d.0, none_same e xs d.1)

entries_differ : (entries : Entries) → IsDistinct same_record (map record_of entries) → IsDistinct same_entry entries
unfolding IsDistinct
entries_differ [] d = tt
entries_differ (x ∷ xs) d = (none_same x xs d.0, entries_differ xs d.1)

pub good_differ : (records : List EntryRecord) (entries : Entries) → AllGood IsGoodEntry records → KeepEntries records entries → IsDistinct same_entry entries
good_differ records entries good keep =
    entries_differ entries (subst (IsDistinct same_record) (sym keep.kept) (each_differs IsGoodEntry same_record (λ earlier r k. k.new) records [] good))

-- ---- rows

less_bytes : (a b : List ℕ) → slice_cmp nat_cmp a b ≡ Less → bytes_less a b ≡ true
less_bytes a b h = sym (same_from_slice_cmp nat_cmp is_lt bytes_less refl (λ _ _. refl) (λ _ _. refl) (λ x y xs ys o h. grind (arith, nat_tests)) a b Less (sym h))

abbrev keys : List Row → List (List ℕ)
keys rows = map (λ row. row.app) rows

both : (a b : Bool) → a ≡ true → b ≡ true → (a && b) ≡ true
both a b h k = λ i. h i && k i

all_less : (a b : Row) (rows : List Row) → slice_cmp nat_cmp a.app b.app ≡ Less → IsRising (b.app ∷ keys rows) → list_all (row_less a) (b ∷ rows) ≡ true
all_less a b [] less rising = both (row_less a b) true (less_bytes a.app b.app less) refl
all_less a b (c ∷ rows) less rising =
    both (row_less a b) (list_all (row_less a) (c ∷ rows)) (less_bytes a.app b.app less) (all_less a c rows (nat_list_cmp_total.trans a.app b.app c.app less rising.0) rising.1)

rows_rise : (rows : List Row) → IsRising (keys rows) → is_rising row_less rows ≡ true
rows_rise [] rising = refl
rows_rise (a ∷ []) rising = refl
rows_rise (a ∷ b ∷ rows) rising =
    both (list_all (row_less a) (b ∷ rows)) (is_rising row_less (b ∷ rows)) (all_less a b rows rising.0 rising.1) (rows_rise (b ∷ rows) rising.1)

none_empty : (rows : List Row) → list_any is_empty_row rows ≡ false → list_all has_names rows ≡ true
none_empty [] none = refl
none_empty (row ∷ rows) none = step (is_empty_row row) none (none_empty rows)
  where
    step : (b : Bool) → (b || list_any is_empty_row rows) ≡ false → (list_any is_empty_row rows ≡ false → list_all has_names rows ≡ true) → (not b && list_all has_names rows) ≡ true
    step true h more = cc h
    step false h more = more h

rows_are : (rows : List Row) → IsRising (keys rows) → list_any is_empty_row rows ≡ false → are_rows rows ≡ true
rows_are rows rising none = both (is_rising row_less rows) (list_all has_names rows) (rows_rise rows rising) (none_empty rows none)

all_rows : (records earlier : List EntryRecord) → EachBehind IsGoodEntry earlier records → list_all (λ r. are_rows r.rows) records ≡ true
all_rows [] earlier all = refl
all_rows (r ∷ rs) earlier all =
    both (are_rows r.rows) (list_all (λ r. are_rows r.rows) rs) (rows_are r.rows all.0.itself.rising all.0.itself.some) (all_rows rs (earlier ++ (r ∷ [])) all.1)

kept_rows : (entries : Entries) → list_all (λ r. are_rows r.rows) (map record_of entries) ≡ list_all (λ e. are_rows e.rows) entries
kept_rows [] = refl
kept_rows (e ∷ es) = ap (λ (b : Bool). are_rows e.rows && b) (kept_rows es)

pub good_rows : (records : List EntryRecord) (entries : Entries) → AllGood IsGoodEntry records → KeepEntries records entries → list_all (λ e. are_rows e.rows) entries ≡ true
good_rows records entries good keep =
    sym (kept_rows entries) ∙ (ap (λ (rs : List EntryRecord). list_all (λ r. are_rows r.rows) rs) keep.kept ∙ all_rows records [] good)
