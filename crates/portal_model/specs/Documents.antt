-- What is looked up among the live documents, and the numbers of new ones.
-- Source: XDG Desktop Portal documentation, org.freedesktop.portal.Documents.
use Rattle.std.specs.Prelude.{◌≡◌, ℕ, ◌+◌, ◌-◌, ◌<◌, ◌%◌, ◌^◌, List, Bool, true, false, not, ◌&&◌, Option, option_map}
use Rattle.std.specs.List.{find}
use Rattle.portal_base.specs.Names.{is_same}
use Rattle.portal_base.specs.declared.names.doc_id.DocId.{DocId}
use Rattle.portal_model.specs.declared.state.Document.{Document}
use Rattle.portal_model.specs.Valid.{is_made}

abbrev pub same_flag : Bool → Bool → Bool
same_flag true b = b
same_flag false b = not b

-- the document may stand for a new one of this path that is persistent, strict and a folder or
-- isn't
abbrev pub serves : List ℕ → Bool → Bool → Bool → Document → Bool
serves path persistent strict folder d =
    is_same d.path path
    && (same_flag d.persistent persistent
    && (same_flag d.strict strict && (same_flag d.folder folder && d.reusable)))

abbrev pub id_of_document : Document → DocId
id_of_document d = d.id

-- the first that may stand for a new one
abbrev pub reusable_of : List Document → List ℕ → Bool → Bool → Bool → Option DocId
reusable_of documents path persistent strict folder =
    option_map id_of_document (find (serves path persistent strict folder) documents)

-- the first of a path
abbrev pub first_of : List Document → List ℕ → Option DocId
first_of documents path = option_map id_of_document (find (λ d. is_same d.path path) documents)

-- how far a number of 32 bits lies above a word, where 0 follows the greatest number
abbrev pub above : ℕ → ℕ → ℕ
above word number = (number + (2 ^ 32 - word)) % 2 ^ 32

-- the first number at or above the word that no made document has
pub record IsUnused (made : List DocId) (word number : ℕ) : Type 0 where
  pub unused : is_made made number ≡ false
  pub first : (other : ℕ) → other < 2 ^ 32 → above word other < above word number →
      is_made made other ≡ true
