-- What connections have named below exported folders: how that grows, and what it is of. Namings,
-- and the numbers that they give to nodes, are this project's own; the exported folder is that of
-- the flag 8 of AddFull, "export directory", in the XDG Desktop Portal documentation.
use Rattle.std.specs.Prelude.{◌≡◌, ℕ, ◌==◌, List, [], ◌∷◌, ◌++◌, Bool, true, false, Option, Some, None}
use Rattle.std.specs.List.{list_all, slice_split}
use Rattle.portal_base.specs.Names.{is_part, is_slash}
use Rattle.portal_base.specs.declared.who.Kind.{Kind}
use Rattle.portal_base.specs.declared.who.Who.{Who}
use Rattle.portal_model.specs.declared.entry.Entry.{Entry}
use Rattle.portal_model.specs.declared.entry.Given.{Given}
use Rattle.portal_model.specs.declared.naming.Naming.{Naming}
use Rattle.portal_model.specs.declared.opening.OpeningState.{OpeningState}
use Rattle.portal_model.specs.declared.request.Request.{Request}
use Rattle.portal_model.specs.declared.state.Connection.{Connection}
use Rattle.portal_model.specs.declared.state.Document.{Document}
use Rattle.portal_model.specs.History.{EachLawful, Legal, run}
use Rattle.portal_model.specs.Opening.{SoundOpening, opened, opened_over}
use Rattle.portal_model.specs.SeatNames.{naming_of}
use Rattle.portal_model.specs.State.{State, connection_of, document_of, is_made}
use Rattle.portal_model.specs.Step.{after}

abbrev pub asks : ℕ → Request → Given → Entry
asks seat request given = record { seat = seat; request = request; given = given }

-- ---- what a seat has named

abbrev pub namings_of : Option Connection → List Naming
namings_of None = []
namings_of (Some c) = c.namings

-- on its open connection; nothing where it has none
abbrev pub named_by : State → ℕ → List Naming
named_by s seat = namings_of (connection_of s.connections seat)

abbrev pub is_leave : Request → Bool
is_leave Request.Leave = true
is_leave request = false

-- What a seat has named under a number stays under it, whatever is asked by whom, until the seat
-- leaves. An entry leaves what other seats have named. A connection begins with nothing named, and
-- what it has named goes with it.
pub record NamingsStay : Type 0 where
  pub numbers :
      (s : State) (e : Entry) (k : ℕ) (n : Naming) → is_leave e.request ≡ false →
      naming_of (named_by s e.seat) k ≡ Some n →
      naming_of (named_by (after s e) e.seat) k ≡ Some n
  pub others :
      (s : State) (e : Entry) (seat : ℕ) → (e.seat == seat) ≡ false →
      named_by (after s e) seat ≡ named_by s seat
  pub enters :
      (s : State) (seat : ℕ) (who : Who) (kind : Kind) (given : Given) →
      connection_of s.connections seat ≡ None →
      named_by (after s (asks seat (Request.Enter who kind) given)) seat ≡ []
  pub leaves :
      (s : State) (seat : ℕ) (given : Given) →
      named_by (after s (asks seat Request.Leave given)) seat ≡ []

-- ---- what is named

-- The path goes on from that of a folder: by a slash, and at least one part behind it, with a slash
-- between each two. No part is empty, "." or "..".
pub record IsBelow (folder path : List ℕ) : Type 0 where
  pub behind : List ℕ
  pub joined : path ≡ folder ++ 47 ∷ behind
  pub parts : list_all is_part (slice_split is_slash behind) ≡ true

-- its document was made; while that is live it is a folder, and the path lies below the document's
pub record IsOfMadeDocument (s : State) (n : Naming) : Type 0 where
  pub made : is_made s.made n.document.number ≡ true
  pub folder :
      (d : Document) → document_of s.documents n.document.number ≡ Some d → d.folder ≡ true
  pub below :
      (d : Document) → document_of s.documents n.document.number ≡ Some d →
      IsBelow d.path n.path

-- so is all that a seat has named
abbrev pub AreOfMadeDocuments : State → Type 0
AreOfMadeDocuments s = (seat k : ℕ) (n : Naming) → naming_of (named_by s seat) k ≡ Some n →
    IsOfMadeDocument s n

-- Each legal history comes to such a state; and so does each history of lawful entries from the
-- state that a sound opening stands for, over a tree that tells its files and over one that tells
-- nothing.
pub record NamingsAreOfMadeDocuments : Type 0 where
  pub legal : (s : State) (h : List Entry) → Legal s h → AreOfMadeDocuments (run s h)
  pub told :
      (o : OpeningState) (h : List Entry) → SoundOpening o → EachLawful (opened o) h →
      AreOfMadeDocuments (run (opened o) h)
  pub quiet :
      (o : OpeningState) (h : List Entry) → SoundOpening o → EachLawful (opened_over None o) h →
      AreOfMadeDocuments (run (opened_over None o) h)
