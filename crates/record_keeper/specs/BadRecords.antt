-- Which of kept records is bad: what a portal doesn't open with.
use Rattle.std.specs.Prelude.{◌≡◌, ◌⊎◌, ℕ, ◌+◌, ◌<◌, ◌≤◌, false, List, [], ◌∷◌, ◌++◌, length, map, Option, None, Some}
use Rattle.std.specs.List.{list_any}
use Rattle.portal_base.specs.declared.limits.Limits.{Limits}
use Rattle.portal_model.specs.Opening.{each, first_named}
use Rattle.portal_model.specs.RecordChanges.{is_numbered, is_of_key, records_version}
use Rattle.portal_model.specs.Valid.{applications_limit}
use Rattle.portal_model.specs.declared.records.DocRecord.{DocRecord}
use Rattle.portal_model.specs.declared.records.EntryRecord.{EntryRecord}
use Rattle.portal_model.specs.declared.records.Records.{Records}
use Rattle.record_keeper.specs.SoundRecords.{IsSoundDocument, IsSoundEntry}
use Rattle.record_keeper.specs.declared.fault.RecordsFault.{RecordsFault}
use Rattle.record_keeper.specs.declared.fault.RecordsFault.TheVariants.{BadVersion, BadRecord}

-- ---- versions

-- the version of records in which no document is strict
abbrev pub first_version : ℕ
first_version = 1

-- the versions that records have
abbrev pub IsVersion : ℕ → Type 0
IsVersion version = (version ≡ first_version) ⊎ (version ≡ records_version)

-- ---- one behind others

-- the applications that a document gives rights to
abbrev pub names_granted : DocRecord → List (List ℕ)
names_granted document = map (λ grant. grant.app) document.grants

-- those of documents, each where it is first named
abbrev pub applications_of : List DocRecord → List (List ℕ)
applications_of documents = first_named (each names_granted documents)

-- A document that may be kept in records of a version behind those before it: it is sound by
-- itself, it isn't strict where the version has no strict ones, its number is new, the limits of
-- live and of made documents aren't reached, and with it that of applications isn't passed.
pub record IsGoodDocument (version : ℕ) (limits : Limits) (earlier : List DocRecord)
    (document : DocRecord) : Type 0 where
  pub itself : IsSoundDocument document
  pub plain : version ≡ first_version → document.strict ≡ false
  pub new : list_any (is_numbered document.number) earlier ≡ false
  pub live : length earlier < limits.documents
  pub made : length earlier < limits.made
  pub applications : length (applications_of (earlier ++ document ∷ [])) ≤ applications_limit

-- An entry that may be kept behind those before it: it is sound by itself, and its table and
-- identifier are new.
pub record IsGoodEntry (earlier : List EntryRecord) (entry : EntryRecord) : Type 0 where
  pub itself : IsSoundEntry entry
  pub new : list_any (is_of_key entry.table entry.id) earlier ≡ false

-- ---- lists of them

-- each of the items is good behind those before it, and `earlier` before them all
abbrev pub EachBehind : {X : Type 0} → (List X → X → Type 0) → List X → List X → Type 0
EachBehind Good earlier [] = Unit {0}
EachBehind Good earlier (x ∷ xs) = Good earlier x × EachBehind Good (earlier ++ x ∷ []) xs

-- each is good behind those before it
abbrev pub AllGood : {X : Type 0} → (List X → X → Type 0) → List X → Type 0
AllGood Good items = EachBehind Good [] items

-- the item with so many before it is the first that isn't good behind those before it
abbrev pub IsFirstBad : {X : Type 0} → (List X → X → Type 0) → List X → ℕ → Type 0
IsFirstBad {X} Good items place = (before : List X) × (bad : X) × (behind : List X)
    × (items ≡ before ++ (bad ∷ behind)) × AllGood Good before × (Good before bad → ⊥)
    × (place ≡ length before)

-- ---- all records

-- no record is bad
pub record AreGood (limits : Limits) (records : Records) : Type 0 where
  pub version : IsVersion records.version
  pub documents : AllGood (IsGoodDocument records.version limits) records.documents
  pub entries : AllGood IsGoodEntry records.entries

-- the first bad record has this index, where documents are counted from 0 and entries behind them
abbrev pub IsFirstBadRecord : Limits → Records → ℕ → Type 0
IsFirstBadRecord limits records index =
    IsFirstBad (IsGoodDocument records.version limits) records.documents index
    ⊎ (AllGood (IsGoodDocument records.version limits) records.documents
    × ((place : ℕ) × IsFirstBad IsGoodEntry records.entries place
    × (index ≡ length records.documents + place)))

-- what is wrong with records under these limits; the version comes first
abbrev pub IsWrong : Limits → Records → Option RecordsFault → Type 0
IsWrong limits records None = AreGood limits records
IsWrong limits records (Some (BadVersion found)) = (found ≡ records.version)
    × (IsVersion found → ⊥)
IsWrong limits records (Some (BadRecord index)) = IsVersion records.version
    × IsFirstBadRecord limits records index
