-- Rows that pass the test of sameness are the same, and the other way round.
use Rattle.std.proofs.Common.{◌≡◌, ℕ, ◌==◌, suc, List, [], ◌∷◌, length, Bool, true, false, ◌&&◌, Option, Some, None, refl, sym, ap, ◌∙◌, arith}
use Rattle.std.specs.Cmp.Lexicographic.{pointwise}
use Rattle.std.specs.List.{list_all, zip}
use Rattle.std.proofs.lemmas.Bool.Decides.{nat_tests}
use Rattle.dbus_types.specs.declared.types.Endian.TheVariants.{Little}
use Rattle.dbus_types.specs.declared.types.Value.TheVariants as V
use Rattle.dbus_values.specs.Spelling.{spelling}
use Rattle.permission_table.specs.Tables.{with_content}
use Rattle.portal_base.specs.Names.{is_same}
use Rattle.portal_model.specs.declared.records.EntryRecord.{EntryRecord}
use Rattle.portal_model.specs.declared.records.Row.{Row}
use Rattle.portal_model.specs.declared.reply.Change.{Change}
use Rattle.portal_model.specs.declared.store.TableEntry.{TableEntry}
use Rattle.portal_model.specs.Store.{record_of}
use Rattle.portal_model.specs.Valid.{entry_told}
use Rattle.portal_model.proofs.DocumentChanges.{both, first_of_both, second_of_both}
use Rattle.portal_model.proofs.ListLookups.{is_same-eq, is_same-refl}
use Rattle.store_serving.specs.Records.{former_record, is_kept, same_pair, same_row, same_rows}

same_texts-eq : (a b : List (List ℕ)) → pointwise is_same a b ≡ true → a ≡ b
same_texts-eq [] [] h = refl
same_texts-eq [] (y ∷ ys) h = cc
same_texts-eq (x ∷ xs) [] h = cc
same_texts-eq (x ∷ xs) (y ∷ ys) h = λ i. is_same-eq x y (first_of_both (is_same x y) (pointwise is_same xs ys) h) i ∷ same_texts-eq xs ys (second_of_both (is_same x y) (pointwise is_same xs ys) h) i

same_texts-refl : (a : List (List ℕ)) → pointwise is_same a a ≡ true
same_texts-refl [] = refl
same_texts-refl (x ∷ xs) = both (is_same x x) (pointwise is_same xs xs) (is_same-refl x) (same_texts-refl xs)

same_row-eq : (a b : Row) → same_row a b ≡ true → a ≡ b
same_row-eq a b h =
    let app = is_same-eq a.app b.app (first_of_both (is_same a.app b.app) (pointwise is_same a.names b.names) h) in
    let names = same_texts-eq a.names b.names (second_of_both (is_same a.app b.app) (pointwise is_same a.names b.names) h) in
    λ i. record { app = app i; names = names i }

same_row-refl : (a : Row) → same_row a a ≡ true
same_row-refl a = both (is_same a.app a.app) (pointwise is_same a.names a.names) (is_same-refl a.app) (same_texts-refl a.names)

next-length : (n m : ℕ) → (suc n == suc m) ≡ true → (n == m) ≡ true
next-length n m h = grind (arith, nat_tests)

by-length : (a b : List Row) → (length a == length b) ≡ true → list_all same_pair (zip a b) ≡ true → a ≡ b
by-length [] [] h k = refl
by-length [] (y ∷ ys) h k = absurd (grind (arith, nat_tests))
by-length (x ∷ xs) [] h k = absurd (grind (arith, nat_tests))
by-length (x ∷ xs) (y ∷ ys) h k =
    λ i. same_row-eq x y (first_of_both (same_row x y) (list_all same_pair (zip xs ys)) k) i
    ∷ by-length xs ys (next-length (length xs) (length ys) h) (second_of_both (same_row x y) (list_all same_pair (zip xs ys)) k) i

same_rows-eq : (a b : List Row) → same_rows a b ≡ true → a ≡ b
same_rows-eq a b h = by-length a b (first_of_both (length a == length b) (list_all same_pair (zip a b)) h) (second_of_both (length a == length b) (list_all same_pair (zip a b)) h)

pairs-refl : (a : List Row) → list_all same_pair (zip a a) ≡ true
pairs-refl [] = refl
pairs-refl (x ∷ xs) = both (same_row x x) (list_all same_pair (zip xs xs)) (same_row-refl x) (pairs-refl xs)

itself : (n : ℕ) → (n == n) ≡ true
itself n = grind (arith, nat_tests)

same_rows-refl : (a : List Row) → same_rows a a ≡ true
same_rows-refl a = both (length a == length a) (list_all same_pair (zip a a)) (itself (length a)) (pairs-refl a)

-- ---- records that are the same

-- what differs in rows or data is no such record
other-record : (r o : EntryRecord) → (same_rows r.rows o.rows && is_same r.datum o.datum) ≡ false → Some r ≡ Some o → ⊥
other-record r o h e =
    let same : r ≡ o = some-is r o e in
    let rows : same_rows r.rows o.rows ≡ true = ap (λ (x : EntryRecord). same_rows r.rows x.rows) (sym same) ∙ same_rows-refl r.rows in
    let datum : is_same r.datum o.datum ≡ true = ap (λ (x : EntryRecord). is_same r.datum x.datum) (sym same) ∙ is_same-refl r.datum in
    let no : true ≡ false = sym (both (same_rows r.rows o.rows) (is_same r.datum o.datum) rows datum) ∙ h in
    cc
  where
    some-is : (a b : EntryRecord) → Some a ≡ Some b → a ≡ b
    some-is a b e = cc

-- ---- the record of an entry that is told

abbrev spelled_datum : Change → List ℕ
spelled_datum change = spelling Little 0 (V.Variant change.datum)

pub kept-before : (former : Option TableEntry) (change : Change) → is_kept former change.rows (spelled_datum change) ≡ true → former_record change.table change.id former ≡ Some (record_of (entry_told change))
kept-before None change h = cc
kept-before (Some f) change h =
    let before = spelling Little 0 (V.Variant f.datum) in
    let rows = same_rows-eq f.rows change.rows (first_of_both (same_rows f.rows change.rows) (is_same before (spelled_datum change)) h) in
    let datum = is_same-eq before (spelled_datum change) (second_of_both (same_rows f.rows change.rows) (is_same before (spelled_datum change)) h) in
    λ i. Some (record { table = change.table; id = change.id; datum = datum i; rows = rows i })

pub other-before : (former : Option TableEntry) (change : Change) → is_kept former change.rows (spelled_datum change) ≡ false → former_record change.table change.id former ≡ Some (record_of (entry_told change)) → ⊥
other-before None change h e = cc
other-before (Some f) change h e = other-record (record_of (with_content change.table change.id f)) (record_of (entry_told change)) h e

-- rows of one number that are the same pair by pair
pub pairs-same : (a b : List Row) (found : Bool) → length a ≡ length b → found ≡ list_all same_pair (zip a b) → found ≡ same_rows a b
pairs-same a b found e f =
    let long : (length a == length b) ≡ true = grind (arith, nat_tests) in
    f ∙ (λ i. sym long i && list_all same_pair (zip a b))
