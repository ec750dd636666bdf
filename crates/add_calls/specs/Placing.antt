-- The files of a plan placed one after another: what becomes of the portal's own lists, of the
-- words and of what is told of both.
use Rattle.std.specs.Prelude.{◌≡◌, ◌<◌, ◌≤◌, ◌^◌, ℕ, List, [], ◌∷◌, ◌++◌, fold, length, cond, Option, Some, None, is_some}
use Rattle.std.specs.List.{count_by}
use Rattle.portal_base.specs.Outside.{Draws}
use Rattle.portal_base.specs.declared.names.doc_id.DocId.{DocId}
use Rattle.portal_base.specs.declared.who.Who.{Who}
use Rattle.portal_model.specs.declared.request.AddRequest.{AddRequest}
use Rattle.portal_model.specs.declared.state.Triple.{Triple}
use Rattle.portal_model.specs.Add.{new_document}
use Rattle.portal_model.specs.Documents.{IsUnused}
use Rattle.portal_model.specs.Outside.{AreDrawn}
use Rattle.portal_model.specs.State.{State}
use Rattle.document_records.specs.Documents.{DocumentList, IsLast, with_document}
use Rattle.add_files.specs.Plans.{Followed, document_at, follow_item, followed, is_new}
use Rattle.add_files.specs.declared.plan.AddPlan.{AddPlan}
use Rattle.add_files.specs.declared.plan.PlanItem.{PlanItem}
use Rattle.add_files.specs.declared.plan.PlanUse.{PlanUse}
use Rattle.add_files.specs.declared.plan.PlanUse.TheVariants.{LeftOut, Live, Earlier, New}
use Rattle.add_calls.specs.declared.place.Drawn.{Drawn}
use Rattle.add_calls.specs.declared.place.Use.{Use}
use Rattle.add_calls.specs.Giving.{GaveBoth}
use Rattle.add_calls.specs.Limits.{has_document}

-- the portal's own lists
pub record Book : Type 0 where
  pub documents : DocumentList
  pub rights : List Triple
  pub applications : List (List ℕ)

abbrev pub book_of : DocumentList → List Triple → List (List ℕ) → Book
book_of documents rights applications =
    record { documents = documents; rights = rights; applications = applications }

-- the state with these in their place
abbrev pub with_lists : State → Book → State
with_lists s book = record s {
  documents = book.documents.live;
  made = book.documents.made;
  rights = book.rights;
  applications = book.applications;
}

abbrev pub followed_at : State → Book → List DocId → List (Option DocId) → Followed
followed_at s book numbers documents = record {
  state = with_lists s book;
  numbers = numbers;
  documents = documents;
}

-- words that came one after another
abbrev pub Drew : Option (List ℕ) → List ℕ → Option (List ℕ) → Type 0
Drew old [] new = new ≡ old
Drew old (word ∷ words) new = (mid : Option (List ℕ)) × Draws old word mid × Drew mid words new

abbrev pub HasDrawn : Option (List ℕ) → Option (List ℕ) → Type 0
HasDrawn old new = (words : List ℕ) × Drew old words new

-- the same, so many words at most
abbrev pub HasDrawnUpTo : ℕ → Option (List ℕ) → Option (List ℕ) → Type 0
HasDrawnUpTo most old new = (words : List ℕ) × Drew old words new × (length words ≤ most)

-- how many words are drawn for a file at most: one where its document is new
abbrev pub words_of : PlanUse → ℕ
words_of place = cond (is_new place) 1 0

-- and for files, one for each whose document is new
abbrev pub words_for : List PlanItem → ℕ
words_for items = count_by (λ item. is_new item.place) items

-- ---- the document of a file

abbrev pub with_told : Drawn → Option DocId → Drawn
with_told drawn id = record drawn { documents = drawn.documents ++ id ∷ [] }

abbrev pub with_drawn : Drawn → ℕ → DocId → Drawn
with_drawn drawn word id = record {
  words = drawn.words ++ word ∷ [];
  numbers = drawn.numbers ++ id ∷ [];
  documents = drawn.documents ++ Some id ∷ [];
}

-- a word was drawn for a document, which was made with the first unused number from the word on
pub record Makes (a : AddRequest) (path : List ℕ) (id : DocId) (documents after : DocumentList)
    (told told_after : Option (List ℕ)) (drawn drawn_after : Drawn) : Type 0 where
  pub word : ℕ
  pub draws : Draws told word told_after
  pub word_fits : word < 2 ^ 32
  pub number_fits : id.number < 2 ^ 32
  pub unused : IsUnused documents.made word id.number
  pub added : after ≡ with_document documents (new_document a id path)
  pub tells : drawn_after ≡ with_drawn drawn word id

-- a document was found, or there is none: no word was drawn
pub record Finds (is id : Option DocId) (documents after : DocumentList)
    (told told_after : Option (List ℕ)) (drawn drawn_after : Drawn) : Type 0 where
  pub same : id ≡ is
  pub stays : after ≡ documents
  pub undrawn : told_after ≡ told
  pub tells : drawn_after ≡ with_told drawn is

abbrev pub MakesOne : AddRequest → List ℕ → Option DocId → DocumentList → DocumentList →
    Option (List ℕ) → Option (List ℕ) → Drawn → Drawn → Type 0
MakesOne a path None documents after told told_after drawn drawn_after = ⊥
MakesOne a path (Some id) documents after told told_after drawn drawn_after =
    Makes a path id documents after told told_after drawn drawn_after

abbrev pub Found : AddRequest → List ℕ → PlanUse → Option DocId → DocumentList → DocumentList →
    Option (List ℕ) → Option (List ℕ) → Drawn → Drawn → Type 0
Found a path LeftOut id documents after told told_after drawn drawn_after =
    Finds None id documents after told told_after drawn drawn_after
Found a path (Live live) id documents after told told_after drawn drawn_after =
    Finds (Some live) id documents after told told_after drawn drawn_after
Found a path (Earlier k) id documents after told told_after drawn drawn_after =
    Finds (Some (document_at drawn.documents k)) id documents after told told_after drawn
    drawn_after
Found a path New id documents after told told_after drawn drawn_after =
    MakesOne a path id documents after told told_after drawn drawn_after

-- what a file made of the documents
abbrev pub IsMade : AddRequest → List ℕ → PlanUse → DocId → DocumentList → DocumentList → Type 0
IsMade a path LeftOut id before after = after ≡ before
IsMade a path (Live live) id before after = after ≡ before
IsMade a path (Earlier k) id before after = after ≡ before
IsMade a path New id before after = after ≡ with_document before (new_document a id path)

abbrev pub IsLastMade : PlanUse → DocId → DocumentList → Type 0
IsLastMade LeftOut id documents = Unit {0}
IsLastMade (Live live) id documents = Unit {0}
IsLastMade (Earlier k) id documents = Unit {0}
IsLastMade New id documents = IsLast documents id

abbrev pub IsLastUse : PlanUse → Option Use → DocumentList → Type 0
IsLastUse place None documents = Unit {0}
IsLastUse place (Some used) documents = IsLastMade place used.id documents

-- ---- the use of a file

pub record Used (who : Who) (a : AddRequest) (plan : AddPlan) (item : PlanItem) (used : Use)
    (before after : Book) : Type 0 where
  pub made : IsMade a item.path item.place used.id before.documents after.documents
  pub gave : GaveBoth who plan item.own used.id used.given before.rights before.applications
      after.rights after.applications

abbrev pub WasUsed : Who → AddRequest → AddPlan → PlanItem → Option Use → Book → Book → Type 0
WasUsed who a plan item None before after = after ≡ before
WasUsed who a plan item (Some used) before after = Used who a plan item used before after

-- files one after another; each one's use is the last in what it left
abbrev pub UsedAll : Who → AddRequest → AddPlan → List PlanItem → List (Option Use) → Book → Book →
    Type 0
UsedAll who a plan [] uses before after = after ≡ before
UsedAll who a plan (item ∷ items) [] before after = ⊥
UsedAll who a plan (item ∷ items) (used ∷ uses) before after =
    (mid : Book) × WasUsed who a plan item used before mid × IsLastUse item.place used mid.documents
    × UsedAll who a plan items uses mid after

-- these files were placed last
abbrev pub WerePlaced : Who → AddPlan → List PlanItem → List (Option Use) → Book → Type 0
WerePlaced who plan items uses now =
    (a : AddRequest) × (before : Book) × UsedAll who a plan items uses before now

-- ---- all files

-- These words were drawn and told, each for one number; and in any state with these lists the files
-- are followed, with these numbers, to the lists after.
pub record Placed (who : Who) (a : AddRequest) (plan : AddPlan) (items : List PlanItem)
    (before after : Book) (told told_after : Option (List ℕ)) (drawn drawn_after : Drawn)
    : Type 0 where
  pub words : List ℕ
  pub numbers : List DocId
  pub drew : Drew told words told_after
  pub drawn_for : AreDrawn before.documents.made words numbers
  pub made : after.documents.made ≡ before.documents.made ++ numbers
  pub words_told : drawn_after.words ≡ drawn.words ++ words
  pub numbers_told : drawn_after.numbers ≡ drawn.numbers ++ numbers
  pub follows : (s : State) (more : List DocId) →
      fold (follow_item who a plan.app plan.listed)
      (followed_at s before (numbers ++ more) drawn.documents) items
      ≡ followed_at s after more drawn_after.documents

-- one file, and what has to be known to take it back
pub record PlacedItem (who : Who) (a : AddRequest) (plan : AddPlan) (item : PlanItem)
    (used : Option Use) (before after : Book) (told told_after : Option (List ℕ))
    (drawn drawn_after : Drawn) : Type 0 where
  pub placed : Placed who a plan (item ∷ []) before after told told_after drawn drawn_after
  pub undone : WasUsed who a plan item used before after
  pub last : IsLastUse item.place used after.documents
  pub uses : is_some used ≡ has_document item.place

abbrev pub none_drawn : Drawn
none_drawn = record { words = []; numbers = []; documents = [] }

-- The whole plan: the words were drawn, each for one number, and in any state with these lists the
-- plan is followed, with these numbers, to the lists after.
pub record Follows (who : Who) (a : AddRequest) (plan : AddPlan) (before after : Book)
    (told told_after : Option (List ℕ)) (drawn : Drawn) : Type 0 where
  pub drew : Drew told drawn.words told_after
  pub drawn_for : AreDrawn before.documents.made drawn.words drawn.numbers
  pub made : after.documents.made ≡ before.documents.made ++ drawn.numbers
  pub follows : (s : State) →
      followed who a plan (with_lists s before) drawn.numbers
      ≡ followed_at s after [] drawn.documents
