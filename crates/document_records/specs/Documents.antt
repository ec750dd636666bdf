-- The documents of a portal, as lists.
-- Source: XDG Desktop Portal documentation, org.freedesktop.portal.Documents.
use Rattle.std.specs.Prelude.{◌≡◌, ℕ, ◌==◌, ◌-◌, min, List, [], ◌∷◌, ◌++◌, length, take, Bool, false, not, Option, Some, None}
use Rattle.std.specs.List.{filter}
use Rattle.portal_base.specs.declared.names.doc_id.DocId.{DocId}
use Rattle.portal_model.specs.declared.state.Document.{Document}
use Rattle.portal_model.specs.State.{document_of}
use Rattle.portal_model.specs.Valid.{is_made}

pub record DocumentList : Type 0 where
  -- how many documents may be live, and how many may be made
  pub most_live : ℕ
  pub most_made : ℕ
  -- the live documents, in order of addition
  pub live : List Document
  -- the numbers of all documents that were ever made, in the order in which they were
  pub made : List DocId

-- none, under these limits
abbrev pub no_documents : ℕ → ℕ → DocumentList
no_documents most_live most_made =
    record { most_live = most_live; most_made = most_made; live = []; made = [] }

-- how many more may be added
abbrev pub room : DocumentList → ℕ
room s = min (s.most_live - length s.live) (s.most_made - length s.made)

abbrev pub with_document : DocumentList → Document → DocumentList
with_document s d = record s { live = s.live ++ d ∷ []; made = s.made ++ d.id ∷ [] }

abbrev pub has_number : ℕ → Document → Bool
has_number number d = d.id.number == number

-- the document of a number goes, and its number stays made
abbrev pub without_document : DocumentList → ℕ → DocumentList
without_document s number = record s { live = filter (λ d. not (has_number number d)) s.live }

-- all but the last
abbrev pub front : {X : Type 0} → List X → List X
front xs = take (length xs - 1) xs

-- the document that was added last goes, and its number is no longer made
abbrev pub without_last : DocumentList → DocumentList
without_last s = record s { live = front s.live; made = front s.made }

-- the document of this number is live, nothing was added after it, and its number wasn't made
-- before
pub record IsLast (s : DocumentList) (id : DocId) : Type 0 where
  pub before : DocumentList
  pub last : Document
  pub number : last.id ≡ id
  pub added : s ≡ with_document before last
  pub new : is_made before.made id.number ≡ false

abbrev pub is_persistent : Option Document → Bool
is_persistent None = false
is_persistent (Some d) = d.persistent

-- the document of the number is live, and outlives the run
abbrev pub is_kept : List Document → ℕ → Bool
is_kept documents number = is_persistent (document_of documents number)
