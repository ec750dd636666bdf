-- Where the tree is asked for a request of an application, and where it may be: so what the looks
-- can tell that stand in the item of such a request.
use Rattle.std.specs.Prelude.{◌≡◌, ◌≤◌, ◌⊎◌, ℕ, List, [], ◌∷◌, ◌++◌, length, take, Bool, true, false, Option, Some, None, cond}
use Rattle.std.specs.List.{All, list_all}
use Rattle.file_generations.specs.Generations.{Held, may_freshen, may_turn}
use Rattle.portal_base.specs.Names.{is_host_path, is_in_own_folder}
use Rattle.portal_base.specs.declared.files.FileName.{FileName}
use Rattle.portal_base.specs.declared.files.Look.{Look}
use Rattle.portal_base.specs.declared.who.Who.{Who}
use Rattle.portal_model.specs.declared.entry.Entry.{Entry}
use Rattle.portal_model.specs.declared.entry.Given.{Given}
use Rattle.portal_model.specs.declared.handle.Handle.{Handle}
use Rattle.portal_model.specs.declared.opening.OpeningState.{OpeningState}
use Rattle.portal_model.specs.declared.request.AddRequest.{AddRequest}
use Rattle.portal_model.specs.declared.request.NodeOp.{NodeOp}
use Rattle.portal_model.specs.declared.request.NodeRequest.{NodeRequest}
use Rattle.portal_model.specs.declared.request.Request.{Request}
use Rattle.portal_model.specs.declared.rights.Right.TheVariants.{Read}
use Rattle.portal_model.specs.declared.state.Connection.{Connection}
use Rattle.portal_model.specs.declared.state.Document.{Document}
use Rattle.portal_model.specs.Add.{add}
use Rattle.portal_model.specs.AddArguments.{paths_shown}
use Rattle.portal_model.specs.History.{Legal, makes, run}
use Rattle.portal_model.specs.Lawful.{Lawful}
use Rattle.portal_model.specs.Node.{walk_on_node}
use Rattle.portal_model.specs.Opening.{opened_over}
use Rattle.portal_model.specs.Reach.{OpenFile}
use Rattle.portal_model.specs.State.{State, connection_of, document_of, handle_of, has, held_in}
use Rattle.portal_model.specs.Step.{all_told, bus_of, mount_of}
use Rattle.portal_model.specs.Walk.{Walk, Answers, Looks, Ends, Lists, Target, AtPath, Named, LastCall, Uses, Changes, Makes, Freshens, Turns, shown_at}
use Rattle.app_world.specs.View.{OwnConnection, is_among, is_of_document, view}
use Rattle.served_world.specs.ServedOwn.{served_own}

-- ---- where the tree is asked

-- the place of a last call: the file of a name, or the path at which one is made
abbrev pub place_of_call : LastCall → Target
place_of_call (Uses name) = Named name
place_of_call (Changes name) = Named name
place_of_call (Makes path) = AtPath path
place_of_call (Freshens name) = Named name
place_of_call (Turns name) = Named name

-- The places of the calls that a walk makes, where it is shown these looks, one behind another:
-- each look is of the place that stands where the look does. A call that failed has a place too,
-- and so has a last one that was done, as that of a READ, or as a list of the names in a folder.
abbrev pub places_along : {X : Type 0} → Walk X → List Look → List Target
places_along (Answers x) looks = []
places_along (Looks place next) [] = place ∷ []
places_along (Looks place next) (look ∷ looks) = place ∷ places_along (next look) looks
places_along (Ends call done missing) looks = place_of_call call ∷ []
places_along (Lists path done missing) looks = AtPath path ∷ []

-- What these files show there. Where a last call can't make a file, or can't let one become the
-- present one of its path, nothing is there.
abbrev pub shown_by_call : Held → LastCall → Look
shown_by_call held (Uses name) = shown_at held (Named name)
shown_by_call held (Changes name) = shown_at held (Named name)
shown_by_call held (Makes path) = shown_at held (AtPath path)
shown_by_call held (Freshens name) =
    cond (may_freshen held name) (shown_at held (Named name)) Look.Missing
shown_by_call held (Turns name) =
    cond (may_turn held name) (shown_at held (Named name)) Look.Missing

abbrev pub shown_along : {X : Type 0} → Held → Walk X → List Look → List Look
shown_along held (Answers x) looks = []
shown_along held (Looks place next) [] = shown_at held place ∷ []
shown_along held (Looks place next) (look ∷ looks) =
    shown_at held place ∷ shown_along held (next look) looks
shown_along held (Ends call done missing) looks = shown_by_call held call ∷ []
shown_along held (Lists path done missing) looks = shown_at held (AtPath path) ∷ []

abbrev pub node_places : State → NodeRequest → Given → Option Connection → List Target
node_places s r given None = []
node_places s r given (Some c) =
    places_along (walk_on_node (all_told c.seat s) c r) given.looks

abbrev pub node_shown : State → NodeRequest → Given → Option Connection → List Look
node_shown s r given None = []
node_shown s r given (Some c) =
    shown_along (held_in s) (walk_on_node (all_told c.seat s) c r) given.looks

abbrev pub add_places : State → AddRequest → Given → Option Connection → List Target
add_places s a given None = []
add_places s a given (Some c) =
    places_along (add (all_told c.seat s) c a given.numbers) given.looks

abbrev pub add_shown : State → AddRequest → Given → Option Connection → List Look
add_shown s a given None = []
add_shown s a given (Some c) =
    shown_along (held_in s) (add (all_told c.seat s) c a given.numbers) given.looks

-- a request on a node asks the tree, and an Add; no other does
abbrev pub places_of : State → ℕ → Given → Request → List Target
places_of s seat given (Request.Node r) =
    node_places s r given (mount_of (connection_of s.connections seat))
places_of s seat given (Request.Add a) =
    add_places s a given (bus_of (connection_of s.connections seat))
places_of s seat given request = []

abbrev pub shown_of : State → ℕ → Given → Request → List Look
shown_of s seat given (Request.Node r) =
    node_shown s r given (mount_of (connection_of s.connections seat))
shown_of s seat given (Request.Add a) =
    add_shown s a given (bus_of (connection_of s.connections seat))
shown_of s seat given request = []

-- where the tree is asked for an entry, and what the files of the state show there
abbrev pub places_asked : State → Entry → List Target
places_asked s e = places_of s e.seat e.given e.request

abbrev pub shown_there : State → Entry → List Look
shown_there s e = shown_of s e.seat e.given e.request

-- ---- where it may be, for a request on a node

-- the path is that of a live document in which the application has `read`, or lies below one that
-- is a folder
pub record IsReadable (app : List ℕ) (s : State) (path : List ℕ) : Type 0 where
  pub document : Document
  pub live : document_of s.documents document.id.number ≡ Some document
  pub path_is : is_of_document document path ≡ true
  pub read : has s (Who.App app) document.id.number Read ≡ true

-- a READ needs a file that was opened to read, and a WRITE one that was opened to write
abbrev pub is_opened_for : NodeOp → OpenFile → Bool
is_opened_for (NodeOp.Read fh offset size) file = file.read
is_opened_for (NodeOp.Write fh offset content) file = file.write
is_opened_for op file = true

-- of a strict document `read` is asked for at each request by its handle, but at an FSYNC
abbrev pub follows_rights : NodeOp → Bool
follows_rights (NodeOp.Fsync fh) = false
follows_rights op = true

-- the connection of the seat has this very file open, and the request may go by its handle
pub record IsOpen (app : List ℕ) (s : State) (seat : ℕ) (op : NodeOp) (name : FileName) :
    Type 0 where
  pub fh : ℕ
  pub file : OpenFile
  pub handle :
      handle_of s.handles seat fh
      ≡ Some (Handle.File file.name file.node file.document file.strict file.read file.write)
  pub name_is : file.name ≡ name
  pub opened_for : is_opened_for op file ≡ true
  pub strict :
      file.strict ≡ true → follows_rights op ≡ true →
      has s (Who.App app) file.document.number Read ≡ true

-- A READ, a WRITE and an FSYNC go by a handle alone. Any other request may ask for the file of a
-- document, or for one below a document that is a folder, by its path, or by the handle. A
-- temporary is a file of its document's path.
abbrev pub MayAskFor : List ℕ → State → ℕ → NodeOp → FileName → Type 0
MayAskFor app s seat (NodeOp.Read fh offset size) name =
    IsOpen app s seat (NodeOp.Read fh offset size) name
MayAskFor app s seat (NodeOp.Write fh offset content) name =
    IsOpen app s seat (NodeOp.Write fh offset content) name
MayAskFor app s seat (NodeOp.Fsync fh) name = IsOpen app s seat (NodeOp.Fsync fh) name
MayAskFor app s seat op name = IsReadable app s name.path ⊎ IsOpen app s seat op name

-- ---- where it may be, for an Add

-- The path waits on the connection of the seat as one that was presented there, or it is that of
-- the named file in a folder that does. It lies in the application's own folder, and no part of
-- it is "..".
pub record IsPresented (app : List ℕ) (s : State) (seat : ℕ) (a : AddRequest) (path : List ℕ) :
    Type 0 where
  pub connection : Connection
  pub here : connection_of s.connections seat ≡ Some connection
  pub presented : is_among (paths_shown connection.queue a) path ≡ true
  pub own : is_in_own_folder app path ≡ true
  pub on_host : is_host_path path ≡ true

-- ---- the law

-- where the tree may be asked for this request of the application, on the connection of a seat
abbrev pub MayAsk : List ℕ → State → ℕ → Request → Target → Type 0
MayAsk app s seat (Request.Node r) (AtPath path) = IsReadable app s path
MayAsk app s seat (Request.Node r) (Named name) = MayAskFor app s seat r.op name
MayAsk app s seat (Request.Add a) (AtPath path) = IsPresented app s seat a path
MayAsk app s seat request place = ⊥

-- what waits on the application's connections lies in its own folder
abbrev pub waits_at_home : List ℕ → OwnConnection → Bool
waits_at_home app c = list_all (is_in_own_folder app) c.queue

abbrev pub PresentsItsOwn : List ℕ → State → Type 0
PresentsItsOwn app s = list_all (waits_at_home app) (view s app).connections ≡ true

-- Each look that stands in the item of a request that the application makes is of a place where
-- the application may look: by a request on a node, of the file of a document in which it has
-- `read`, of what lies at or below such a one that is a folder, or of a file that it has open; by an
-- Add, of a file in its own folder. No other request of it looks at the tree.
pub record OwnLooksAreOfItsFiles : Type 0 where
  -- there is a place for each look of the item
  pub looks :
      (s : State) (e : Entry) → Lawful s e →
      length (served_own s e).looks ≤ length (places_asked s e)
  -- where the tree tells its files, the looks are what these have at the places
  pub shows :
      (s : State) (e : Entry) → s.told ≡ true → Lawful s e →
      (served_own s e).looks
      ≡ take (length (served_own s e).looks) (shown_there s e)
  -- In each legal history each of the places is one where the application may look, be the tree
  -- told or not, if at the start there waits nothing of it that it may not present.
  pub places :
      (app : List ℕ) (s : State) (front rest : List Entry) (e : Entry) →
      Legal s (front ++ e ∷ rest) → PresentsItsOwn app s → makes app (run s front) e ≡ true →
      All (MayAsk app (run s front) e.seat e.request) (places_asked (run s front) e)
  -- which is so in each state that a portal is opened in, since no connection is open there
  pub opened :
      (app : List ℕ) (files : Option Held) (o : OpeningState) →
      PresentsItsOwn app (opened_over files o)
