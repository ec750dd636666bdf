-- What an application opens over a history (FUSE_OPEN in include/uapi/linux/fuse.h): an OPEN goes
-- by the rights that the application has then, so a right that was taken opens nothing until it is
-- given again.
use Rattle.std.specs.Prelude.{◌≡◌, ◌⊎◌, ℕ, List, ◌∷◌, ◌++◌, Bool, true, not, ◌&&◌, Option, Some}
use Rattle.portal_model.specs.declared.entry.Entry.{Entry}
use Rattle.portal_model.specs.declared.naming.Naming.{Naming}
use Rattle.portal_model.specs.declared.place.Place.{Place}
use Rattle.portal_model.specs.declared.request.NodeOp.{NodeOp}
use Rattle.portal_model.specs.declared.request.NodeRequest.{NodeRequest}
use Rattle.portal_model.specs.declared.request.Request.{Request}
use Rattle.portal_model.specs.declared.rights.Right.{Right}
use Rattle.portal_model.specs.declared.state.Connection.{Connection}
use Rattle.portal_model.specs.declared.rights.Right.TheVariants.{Read, Write}
use Rattle.portal_model.specs.declared.temporary.Temp.{Temp}
use Rattle.portal_model.specs.History.{Legal, makes, run}
use Rattle.portal_model.specs.Open.{opens_to_write}
use Rattle.portal_model.specs.Place.{naming_on, place_named, temp_on}
use Rattle.portal_model.specs.State.{State, app_has, connection_of}
use Rattle.portal_model.specs.Step.{after, reply_at}
use Rattle.app_world.specs.RightsTold.{is_given_in}
use Rattle.app_world.specs.Touched.{is_done}

-- the application makes the entry, an OPEN of a node with these flags, and it is done
pub record OpensFile (app : List ℕ) (r : NodeRequest) (flags : ℕ) (s : State)
    (e : Entry) : Type 0 where
  pub own : makes app s e ≡ true
  pub asked : e.request ≡ Request.Node r
  pub op : r.op ≡ NodeOp.Open flags
  pub done : is_done (reply_at s e).answer ≡ true

-- the file of the document of a number, or the folder that it is, in the view of who asks
abbrev pub file_in_own_view : ℕ → Place
file_in_own_view number = Place.File 0 (record { number = number })

-- what was named below the folder that the document is, in the same view
pub record IsNamedBelow (naming : Option Naming) (place : Option Place)
    (number : ℕ) : Type 0 where
  pub named : Naming
  pub is : naming ≡ Some named
  pub k : ℕ
  pub at : place ≡ Some (Place.Named 0 k)
  pub document : named.document.number ≡ number

-- what was made beside the document's file, to be renamed onto its name, in the same view
pub record IsMadeBeside (temp : Option Temp) (place : Option Place) (number : ℕ) : Type 0 where
  pub made : Temp
  pub is : temp ≡ Some made
  pub k : ℕ
  pub at : place ≡ Some (Place.Temporary 0 k)
  pub document : made.document.number ≡ number

-- the place of a document's file or of the folder that it is, or one below it, or a temporary of it
abbrev pub IsOfDocument : Option Naming → Option Temp → Option Place → ℕ → Type 0
IsOfDocument naming temp place number =
    (place ≡ Some (file_in_own_view number))
    ⊎ (IsNamedBelow naming place number ⊎ IsMadeBeside temp place number)

-- the application had the right before the entry, and hasn't it after
abbrev pub loses_at : List ℕ → ℕ → Right → State → Entry → Bool
loses_at app number right s e =
    app_has s.rights app number right && not (app_has (after s e).rights app number right)

-- where the entry took the right, a later one gave it again
abbrev pub IsGivenAgain : List ℕ → ℕ → Right → State → Entry → List Entry → Type 0
IsGivenAgain app number right s e later =
    loses_at app number right s e ≡ true →
    is_given_in app number right (after s e) later ≡ true

-- ---- the law

-- The OPEN, over this seat, is of a document's file in the application's own view, or of what the
-- connection named below a folder that is a document, or of a temporary of a document. Whatever the
-- earlier entry took of the right to read the document was given again between the two; so was the
-- right to write it for an OPEN that writes or truncates. And the application has these rights at
-- the OPEN.
pub record IsOpenedByRights (app : List ℕ) (flags seat : ℕ) (r : NodeRequest) (s : State)
    (earlier : Entry) (between : List Entry) : Type 0 where
  pub number : ℕ
  pub connection : Connection
  pub here : connection_of (run (after s earlier) between).connections seat ≡ Some connection
  pub place :
      IsOfDocument (naming_on connection r.node) (temp_on connection r.node) (place_named r.node)
      number
  pub read : IsGivenAgain app number Read s earlier between
  pub write : opens_to_write flags ≡ true → IsGivenAgain app number Write s earlier between
  pub may_read : app_has (run (after s earlier) between).rights app number Read ≡ true
  pub may_write : opens_to_write flags ≡ true →
      app_has (run (after s earlier) between).rights app number Write ≡ true

-- in a legal history, of each OPEN of an application that is done and each earlier entry
abbrev pub NoOpenAfterARevocation : Type 0
NoOpenAfterARevocation =
    (s : State) (before : List Entry) (earlier : Entry) (between : List Entry) (opening : Entry)
    (rest : List Entry) (app : List ℕ) (r : NodeRequest) (flags : ℕ) →
    Legal s (before ++ earlier ∷ (between ++ opening ∷ rest)) →
    OpensFile app r flags (run (after (run s before) earlier) between) opening →
    IsOpenedByRights app flags opening.seat r (run s before) earlier between
