-- What is true of all records.
use Rattle.std.specs.Prelude.{◌≡◌, List, Option, true}
use Rattle.std.specs.List.{IsDistinct, list_all}
use Rattle.portal_base.specs.declared.limits.Limits.{Limits}
use Rattle.portal_model.specs.Rows.{are_rows}
use Rattle.portal_model.specs.Store.{Entries}
use Rattle.portal_model.specs.Valid.{same_entry}
use Rattle.portal_model.specs.declared.records.EntryRecord.{EntryRecord}
use Rattle.portal_model.specs.declared.records.Records.{Records}
use Rattle.record_keeper.specs.BadRecords.{AllGood, IsGoodEntry, IsWrong}
use Rattle.record_keeper.specs.KeptEntries.{KeepEntries}
use Rattle.record_keeper.specs.declared.fault.RecordsFault.{RecordsFault}

-- one thing is wrong with records, or none
abbrev pub OneIsWrong : Type 0
OneIsWrong = (limits : Limits) (records : Records) (one other : Option RecordsFault)
    → IsWrong limits records one → IsWrong limits records other → one ≡ other

-- records keep one list of entries
abbrev pub KeptInOneWay : Type 0
KeptInOneWay = (records : List EntryRecord) (one other : Entries) → KeepEntries records one
    → KeepEntries records other → one ≡ other

-- The entries that good records keep differ in table or identifier. The rows of each stand in byte
-- order, one for each application, and none is empty.
pub record GoodEntriesAreHeld : Type 0 where
  pub differ : (records : List EntryRecord) (entries : Entries) → AllGood IsGoodEntry records
      → KeepEntries records entries → IsDistinct same_entry entries
  pub rows : (records : List EntryRecord) (entries : Entries) → AllGood IsGoodEntry records
      → KeepEntries records entries → list_all (λ e. are_rows e.rows) entries ≡ true
