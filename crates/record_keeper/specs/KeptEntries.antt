-- The entries of the permission store that records keep.
use Rattle.std.specs.Prelude.{◌≡◌, List, map, true}
use Rattle.std.specs.List.{list_all}
use Rattle.portal_model.specs.Store.{Entries, record_of}
use Rattle.portal_model.specs.Valid.{is_valid_entry}
use Rattle.portal_model.specs.declared.records.EntryRecord.{EntryRecord}
use Rattle.portal_model.specs.declared.store.StoredEntry.{StoredEntry}

-- the record is that of this entry, which is valid
pub record KeepsEntry (r : EntryRecord) (e : StoredEntry) : Type 0 where
  pub kept : record_of e ≡ r
  pub valid : is_valid_entry e ≡ true

-- the records are those of these entries, in their order; and the entries are valid
pub record KeepEntries (records : List EntryRecord) (entries : Entries) : Type 0 where
  pub kept : map record_of entries ≡ records
  pub valid : list_all is_valid_entry entries ≡ true
