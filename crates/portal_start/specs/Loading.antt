-- The lists that records open a portal with, or why they open none.
use Rattle.std.specs.Prelude.{◌≡◌, ◌≢◌, ◌⊎◌, ◌==◌, ℕ, ◌^◌, nat_lt, [], ◌∷◌, Bool, true, false, map, Option, Some, IfSome}
use Rattle.std.specs.List.{list_all}
use Rattle.file_generations.specs.Generations.{Held}
use Rattle.portal_base.specs.declared.limits.Limits.{Limits}
use Rattle.portal_base.specs.declared.names.doc_id.DocId.{DocId}
use Rattle.portal_model.specs.declared.opening.OpeningDocument.{OpeningDocument}
use Rattle.portal_model.specs.declared.opening.OpeningState.{OpeningState}
use Rattle.portal_model.specs.declared.records.DocRecord.{DocRecord}
use Rattle.portal_model.specs.declared.records.RecordChange.TheVariants.{Upgrade}
use Rattle.portal_model.specs.declared.records.Records.{Records}
use Rattle.portal_model.specs.Opening.{id_of, document_kept, rights_kept}
use Rattle.portal_model.specs.Store.{Entries}
use Rattle.portal_base.specs.Calls.{FailsAsTold}
use Rattle.record_keeper.specs.BadRecords.{AreGood, IsWrong, applications_of, first_version}
use Rattle.record_keeper.specs.KeptEntries.{KeepEntries}
use Rattle.record_keeper.specs.Keepers.{Applies, KeeperIs, Loads, after_call}
use Rattle.record_keeper.specs.declared.fault.RecordsFault.TheVariants as wrong
use Rattle.record_keeper.specs.declared.keeper.KeeperDone.{KeeperDone}
use Rattle.record_keeper.specs.declared.keeper.KeeperDone.TheVariants as done
use Rattle.record_keeper.specs.declared.keeper.KeeperLoad.TheVariants as load
use Rattle.portal_start.specs.declared.start.Lists.{Lists}
use Rattle.portal_start.specs.declared.start.StartError.{StartError}
use Rattle.portal_start.specs.declared.start.StartError.TheVariants.{KeeperFault, BadVersion, BadRecord, Memory}

-- each kept document persists, and none is a folder
abbrev pub document_loaded : DocRecord → OpeningDocument
document_loaded d = record { kept = d; persistent = true; folder = false }

-- The opening state that stands for records, with these entries: no document was made but those
-- that are kept, and the applications are numbered as the records first name them. The tree tells
-- the files.
abbrev pub opening_loaded : Entries → Limits → Records → OpeningState
opening_loaded entries limits records = record {
  limits = limits;
  documents = map document_loaded records.documents;
  made = map (λ d. id_of d.number) records.documents;
  applications = applications_of records.documents;
  entries = entries;
  files = [];
  taken = [];
}

-- the state that records open with: its entries are those that the records keep
pub record IsOpening (limits : Limits) (records : Records) (opening : OpeningState) : Type 0 where
  pub whole : opening ≡ opening_loaded opening.entries limits records
  pub entries : KeepEntries records.entries opening.entries

-- a number of 32 bits
abbrev pub is_narrow : DocId → Bool
is_narrow id = nat_lt id.number (2 ^ 32)

-- records of the first version become those of this one by one change alone, and others stay
pub record Upgrades (version : ℕ) (old new : KeeperIs) : Type 0 where
  pub made : version ≡ first_version → Applies (Upgrade ∷ []) old done.Done new
  pub stays : version ≢ first_version → new ≡ old

-- why records don't become those of this version
abbrev pub UpgradesBadly : KeeperIs → StartError → KeeperIs → Type 0
UpgradesBadly old KeeperFault new = Applies (Upgrade ∷ []) old done.Failed new
UpgradesBadly old (BadVersion found) new = ⊥
UpgradesBadly old (BadRecord index) new = ⊥
UpgradesBadly old Memory new = (new ≡ old) ⊎ Applies (Upgrade ∷ []) old done.Memory new

-- the records that were loaded are good, the opening state stands for them, and the keeper has them
-- in this version
pub record LoadsGood (limits : Limits) (old : KeeperIs) (opening : OpeningState)
    (new : KeeperIs) : Type 0 where
  pub records : Records
  pub loaded : KeeperIs
  pub loads : Loads old (load.Got records) loaded
  pub good : AreGood limits records
  pub opening_is : IsOpening limits records opening
  pub upgrades : Upgrades records.version loaded new

-- good records of the first version were loaded, and the change that makes them this version's is
-- answered so
pub record FailsToUpgrade (limits : Limits) (old : KeeperIs) (answer : KeeperDone) (new : KeeperIs)
    : Type 0 where
  pub records : Records
  pub loaded : KeeperIs
  pub loads : Loads old (load.Got records) loaded
  pub good : AreGood limits records
  pub version : records.version ≡ first_version
  pub applies : Applies (Upgrade ∷ []) loaded answer new

-- Why no portal starts: the keeper failed, whose count rose, to load or to upgrade; the records
-- that were loaded have another version; one of them is bad, and this is the first; or there was no
-- memory.
abbrev pub LoadsBadly : Limits → KeeperIs → StartError → KeeperIs → Type 0
LoadsBadly limits old KeeperFault new =
    Loads old load.Failed new ⊎ FailsToUpgrade limits old done.Failed new
LoadsBadly limits old (BadVersion found) new =
    (records : Records) × Loads old (load.Got records) new
    × IsWrong limits records (Some (wrong.BadVersion found))
LoadsBadly limits old (BadRecord index) new =
    (records : Records) × Loads old (load.Got records) new
    × IsWrong limits records (Some (wrong.BadRecord index))
LoadsBadly limits old Memory new =
    ((new ≡ after_call old false old.told) × FailsAsTold old.calls false)
    ⊎ FailsToUpgrade limits old done.Memory new

-- where files are told, each is the first of its path, and present: no generation was taken yet
pub record AreFirst (held : Held) : Type 0 where
  pub none_hidden : held.hidden ≡ []
  pub first : list_all (λ f. f.generation == 0) held.present ≡ true

abbrev pub BeganFirst : Option Held → Type 0
BeganFirst began = IfSome began AreFirst

-- the lists are those of the opening state
pub record AreLists (lists : Lists) : Type 0 where
  pub documents : lists.documents ≡ record {
    most_live = lists.opening.limits.documents;
    most_made = lists.opening.limits.made;
    live = map document_kept lists.opening.documents;
    made = lists.opening.made;
  }
  pub rights : lists.rights ≡ rights_kept lists.opening.documents
  pub applications : lists.applications ≡ lists.opening.applications
  pub tables : lists.tables ≡ lists.opening.entries
  pub none_made : lists.temps.seats ≡ []
  pub taken : lists.temps.taken ≡ lists.opening.taken

-- why records that were loaded make no portal
abbrev pub AreBad : Limits → Records → StartError → Type 0
AreBad limits records KeeperFault = ⊥
AreBad limits records (BadVersion found) = IsWrong limits records (Some (wrong.BadVersion found))
AreBad limits records (BadRecord index) = IsWrong limits records (Some (wrong.BadRecord index))
AreBad limits records Memory = Unit {0}
