-- What the check of records keeps of those that it has passed.
use Rattle.std.specs.Prelude.{◌≡◌, ℕ, Bool, true, false, List, [], ◌∷◌, ◌++◌, length}
use Rattle.std.specs.BTreeSet.{contains}
use Rattle.std.specs.List.{list_any}
use Rattle.std.specs.Ordering.{nat_cmp}
use Rattle.portal_base.specs.Names.{is_same}
use Rattle.portal_base.specs.declared.limits.Limits.{Limits}
use Rattle.portal_model.specs.RecordChanges.{is_numbered, is_of_key}
use Rattle.portal_model.specs.Valid.{is_text}
use Rattle.portal_model.specs.declared.records.DocRecord.{DocRecord}
use Rattle.portal_model.specs.declared.records.EntryRecord.{EntryRecord}
use Rattle.record_keeper.specs.BadRecords.{IsGoodDocument, IsGoodEntry, applications_of}
use Rattle.record_keeper.specs.declared.earlier.EarlierDocuments.{EarlierDocuments}

-- how many documents there are, of which numbers, and the applications that they give rights to
pub record KeepsDocuments (kept : EarlierDocuments) (earlier : List DocRecord) : Type 0 where
  pub count : kept.count ≡ length earlier
  pub numbers : (n : ℕ) → contains nat_cmp kept.numbers n ≡ list_any (is_numbered n) earlier
  pub applications : kept.applications ≡ applications_of earlier

-- the document is good behind those that are kept, and is kept too; or it isn't
abbrev pub TakesDocument : ℕ → Limits → EarlierDocuments → DocRecord → EarlierDocuments → Bool
    → Type 0
TakesDocument version limits old document new true = (earlier : List DocRecord)
    → KeepsDocuments old earlier
    → IsGoodDocument version limits earlier document × KeepsDocuments new (earlier ++ document ∷ [])
TakesDocument version limits old document new false = (earlier : List DocRecord)
    → KeepsDocuments old earlier → IsGoodDocument version limits earlier document → ⊥

-- a table and an identifier in one text, with a zero byte between them
abbrev pub key_text : List ℕ → List ℕ → List ℕ
key_text table id = table ++ (0 ∷ id)

-- the keys are those of the entries, among texts without zero bytes
abbrev pub KeepsKeys : List (List ℕ) → List EntryRecord → Type 0
KeepsKeys keys earlier = (table id : List ℕ) → is_text table ≡ true
    → list_any (is_same (key_text table id)) keys ≡ list_any (is_of_key table id) earlier

-- the entry is good behind those whose keys these are, and its key is one of them; or it isn't
abbrev pub TakesEntry : List (List ℕ) → EntryRecord → List (List ℕ) → Bool → Type 0
TakesEntry old entry new true = (earlier : List EntryRecord) → KeepsKeys old earlier
    → IsGoodEntry earlier entry × KeepsKeys new (earlier ++ entry ∷ [])
TakesEntry old entry new false = (earlier : List EntryRecord) → KeepsKeys old earlier
    → IsGoodEntry earlier entry → ⊥
