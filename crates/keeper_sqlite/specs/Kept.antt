-- Which changes of records the tables have a place for. They have the applications of a document or
-- an entry in byte order of their names, each once, and none without a permission.
use Rattle.std.specs.Prelude.{◌≡◌, List, map, false}
use Rattle.std.specs.List.{list_any}
use Rattle.portal_model.specs.declared.records.GrantRecord.{GrantRecord}
use Rattle.portal_model.specs.declared.records.RecordChange.{RecordChange}
use Rattle.portal_model.specs.declared.records.RecordChange.TheVariants.{AddDocument, RemoveDocument, SetGrants, SetEntry, RemoveEntry, Upgrade}
use Rattle.portal_model.specs.declared.records.Row.{Row}
use Rattle.record_keeper.specs.SoundRecords.{IsRising, is_empty_row}

abbrev pub AreGrants : List GrantRecord → Type 0
AreGrants grants = IsRising (map (λ grant. grant.app) grants)

-- none is without permissions
pub record AreRows (rows : List Row) : Type 0 where
  pub some : list_any is_empty_row rows ≡ false
  pub rising : IsRising (map (λ row. row.app) rows)

abbrev pub CanKeep : RecordChange → Type 0
CanKeep (AddDocument document) = AreGrants document.grants
CanKeep (RemoveDocument number) = Unit {0}
CanKeep (SetGrants number grants) = AreGrants grants
CanKeep (SetEntry entry) = AreRows entry.rows
CanKeep (RemoveEntry table id) = Unit {0}
CanKeep Upgrade = Unit {0}
