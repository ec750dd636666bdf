-- What an entry keeps by itself, as a call sets its rows and data.
use Rattle.std.proofs.Common.{◌≡◌, ℕ, List, [], Bool, true, false, ◌&&◌, Option, Some, None, refl, subst}
use Rattle.std.specs.List.{list_all}
use Rattle.dbus_types.specs.declared.types.Value.{Value}
use Rattle.portal_model.specs.Rows.{stored_rows, with_row, without_row}
use Rattle.portal_model.specs.Store.{Entries, entry_of, entry_to_set, new_entry, or_new, with_permissions, without_permissions}
use Rattle.portal_model.specs.Valid.{has_entry_texts, is_text}
use Rattle.portal_model.specs.declared.records.Row.{Row}
use Rattle.portal_model.specs.declared.store.StoredEntry.{StoredEntry}
use Rattle.portal_model.proofs.FewerRows.{fewer-told}
use Rattle.portal_model.proofs.RowTexts.{stored-texts, with-texts, without-texts}
use Rattle.portal_model.proofs.StoreValid.{zero-data}
use Rattle.permission_table.specs.Tables.{AreEntries, IsHeld, IsSound, IsSoundDatum, have_texts}
use Rattle.permission_table.proofs.KeptEntries.{held-found}
use Rattle.permission_table.proofs.RowLemmas.{both, left, right, stored-are, with-are, without-are}

-- ---- texts of entries

table-text : (e : StoredEntry) → has_entry_texts e ≡ true → is_text e.table ≡ true
table-text e h = left (is_text e.table) (is_text e.id && have_texts e.rows) h

id-text : (e : StoredEntry) → has_entry_texts e ≡ true → is_text e.id ≡ true
id-text e h = left (is_text e.id) (have_texts e.rows) (right (is_text e.table) (is_text e.id && have_texts e.rows) h)

rows-texts : (e : StoredEntry) → has_entry_texts e ≡ true → have_texts e.rows ≡ true
rows-texts e h = right (is_text e.id) (have_texts e.rows) (right (is_text e.table) (is_text e.id && have_texts e.rows) h)

entry-texts : (table id : List ℕ) (rows : List Row) → is_text table ≡ true → is_text id ≡ true → have_texts rows ≡ true → (is_text table && (is_text id && have_texts rows)) ≡ true
entry-texts table id rows t i r = both (is_text table) (is_text id && have_texts rows) t (both (is_text id) (have_texts rows) i r)

-- ---- what a call sets

new-sound : (table id : List ℕ) → is_text table ≡ true → is_text id ≡ true → IsSound (new_entry table id)
new-sound table id t i = record { rows = refl; texts = entry-texts table id [] t i refl; datum = zero-data }

pub set-sound : (entries : Entries) (create : Bool) (table id : List ℕ) (e : StoredEntry) → AreEntries entries → is_text table ≡ true → is_text id ≡ true → Some e ≡ entry_to_set entries create table id → IsSound e
set-sound entries create table id e k t i h = step create (entry_of entries table id) refl h
  where
    same : (x y : StoredEntry) → Some x ≡ Some y → y ≡ x
    same x y p = cc

    step : (c : Bool) (o : Option StoredEntry) → entry_of entries table id ≡ o → Some e ≡ or_new c (new_entry table id) o → IsSound e
    step c (Some f) found p = subst IsSound (same e f p) (held-found table id entries f k found).sound
    step true None found p = subst IsSound (same e (new_entry table id) p) (new-sound table id t i)
    step false None found p = let never : ⊥ = cc in absurd never

pub content-sound : (e : StoredEntry) (rows : List Row) (datum : Value) → IsSound e → have_texts rows ≡ true → IsSoundDatum datum → IsSound (record e { rows = stored_rows rows; datum = datum })
content-sound e rows datum k h s = record {
  rows = stored-are rows;
  texts = entry-texts e.table e.id (stored_rows rows) (table-text e k.texts) (id-text e k.texts) (stored-texts rows h);
  datum = s;
}

pub datum-sound : (e : StoredEntry) (datum : Value) → IsSound e → IsSoundDatum datum → IsSound (record e { datum = datum })
datum-sound e datum k s = record { rows = k.rows; texts = k.texts; datum = s }

pub permissions-sound : (app : List ℕ) (names : List (List ℕ)) (e : StoredEntry) → IsSound e → is_text app ≡ true → list_all is_text names ≡ true → IsSound (with_permissions app names e)
permissions-sound app names e k a n =
    let row : Row = record { app = app; names = names } in
    record {
      rows = with-are row e.rows k.rows;
      texts = entry-texts e.table e.id (with_row row e.rows) (table-text e k.texts) (id-text e k.texts) (with-texts row e.rows (both (is_text app) (list_all is_text names) a n) (rows-texts e k.texts));
      datum = k.datum;
    }

pub without-sound : (app : List ℕ) (e : StoredEntry) → IsSound e → IsSound (without_permissions app e)
without-sound app e k = record {
  rows = without-are app e.rows k.rows;
  texts = entry-texts e.table e.id (without_row app e.rows) (table-text e k.texts) (id-text e k.texts) (without-texts app e.rows (rows-texts e k.texts));
  datum = k.datum;
}

-- the tables hold what is left
pub fewer-held : (app : List ℕ) (e : StoredEntry) → IsHeld e → IsHeld (without_permissions app e)
fewer-held app e k = record { sound = without-sound app e k.sound; told = fewer-told app e k.told }
