-- The change of the records with which an entry of the permission store is set.
use Rattle.std.specs.Prelude.{◌≡◌, ℕ, ◌==◌, List, length, Bool, false, ◌&&◌, Option, Some, None, option_map}
use Rattle.std.specs.Cmp.Lexicographic.{pointwise}
use Rattle.std.specs.List.{list_all, zip}
use Rattle.dbus_types.specs.declared.types.Endian.TheVariants.{Little}
use Rattle.dbus_types.specs.declared.types.Value.TheVariants as V
use Rattle.dbus_values.specs.Spelling.{spelling}
use Rattle.permission_table.specs.Tables.{with_content}
use Rattle.portal_base.specs.Names.{is_same}
use Rattle.portal_model.specs.declared.records.EntryRecord.{EntryRecord}
use Rattle.portal_model.specs.declared.records.RecordChange.{RecordChange}
use Rattle.portal_model.specs.declared.records.RecordChange.TheVariants.{SetEntry}
use Rattle.portal_model.specs.declared.records.Row.{Row}
use Rattle.portal_model.specs.declared.store.TableEntry.{TableEntry}
use Rattle.portal_model.specs.Store.{record_of}

-- the record of the entry with this content, where it was there
abbrev pub former_record : List ℕ → List ℕ → Option TableEntry → Option EntryRecord
former_record table id former = option_map (λ f. record_of (with_content table id f)) former

-- The entry had the one record, or none, and has the other now: where these are the same nothing
-- changes, and else the entry is set.
abbrev pub SetsRecord : Option EntryRecord → EntryRecord → Option RecordChange → Type 0
SetsRecord former now None = former ≡ Some now
SetsRecord former now (Some change) = (change ≡ SetEntry now) × (former ≡ Some now → ⊥)

-- ---- rows that are the same

abbrev pub same_row : Row → Row → Bool
same_row a b = is_same a.app b.app && pointwise is_same a.names b.names

abbrev pub same_pair : Row × Row → Bool
same_pair p = same_row p.0 p.1

abbrev pub same_rows : List Row → List Row → Bool
same_rows a b = (length a == length b) && list_all same_pair (zip a b)

-- the entry was there with these rows and this spelled data
abbrev pub is_kept : Option TableEntry → List Row → List ℕ → Bool
is_kept None rows datum = false
is_kept (Some f) rows datum =
    same_rows f.rows rows && is_same (spelling Little 0 (V.Variant f.datum)) datum
