-- What a change does to the records that outlive a run. The terms are those of the documentation of
-- org.freedesktop.impl.portal.PermissionStore, where an entry is of a table and an identifier.
use Rattle.std.specs.Prelude.{ℕ, ◌==◌, List, [], ◌∷◌, ◌++◌, Bool, not, ◌&&◌, cond}
use Rattle.std.specs.List.{filter, list_any}
use Rattle.portal_base.specs.Names.{is_same}
use Rattle.portal_model.specs.declared.records.DocRecord.{DocRecord}
use Rattle.portal_model.specs.declared.records.EntryRecord.{EntryRecord}
use Rattle.portal_model.specs.declared.records.RecordChange.{RecordChange}
use Rattle.portal_model.specs.declared.records.RecordChange.TheVariants.{AddDocument, RemoveDocument, SetGrants, SetEntry, RemoveEntry, Upgrade}
use Rattle.portal_model.specs.declared.records.Records.{Records}

-- the form of records that are written
abbrev pub records_version : ℕ
records_version = 2

-- the first that passes the test changed, in its place
abbrev pub change_first : {X : Type 0} → (X → Bool) → (X → X) → List X → List X
change_first test change [] = []
change_first test change (x ∷ xs) = cond (test x) (change x ∷ xs) (x ∷ change_first test change xs)

abbrev pub is_numbered : ℕ → DocRecord → Bool
is_numbered number document = document.number == number

abbrev pub is_other_number : ℕ → DocRecord → Bool
is_other_number number document = not (is_numbered number document)

abbrev pub is_of_key : List ℕ → List ℕ → EntryRecord → Bool
is_of_key table id entry = is_same entry.table table && is_same entry.id id

abbrev pub is_other_key : List ℕ → List ℕ → EntryRecord → Bool
is_other_key table id entry = not (is_of_key table id entry)

-- a new entry goes last, an old one is replaced in its place
abbrev pub set_entry : EntryRecord → List EntryRecord → List EntryRecord
set_entry entry entries =
    cond (list_any (is_of_key entry.table entry.id) entries)
    (change_first (is_of_key entry.table entry.id) (λ _. entry) entries)
    (entries ++ entry ∷ [])

-- one change
abbrev pub changed : RecordChange → Records → Records
changed (AddDocument document) r = record r { documents = r.documents ++ document ∷ [] }
changed (RemoveDocument number) r =
    record r { documents = filter (is_other_number number) r.documents }
changed (SetGrants number grants) r =
    record r {
      documents = change_first (is_numbered number)
          (λ d. record d { grants = grants }) r.documents;
    }
changed (SetEntry entry) r = record r { entries = set_entry entry r.entries }
changed (RemoveEntry table id) r = record r { entries = filter (is_other_key table id) r.entries }
changed Upgrade r = record r { version = records_version }

-- changes one after another
abbrev pub changed_by : List RecordChange → Records → Records
changed_by [] r = r
changed_by (change ∷ changes) r = changed_by changes (changed change r)
