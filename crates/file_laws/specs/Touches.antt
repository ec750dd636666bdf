-- What the entries of others tell an application: the bytes of files that its view has, and of those
-- at paths of which it tells, where a request changes them; and its rights in documents. Nothing
-- else of what others ask is told. The requests that change a file are those of
-- include/uapi/linux/fuse.h; those on documents are of the documentation of
-- org.freedesktop.portal.Documents.
use Rattle.std.specs.Prelude.{◌≡◌, ℕ, List, [], ◌∷◌, ◌++◌, Bool, true, false, ◌&&◌, ◌||◌, cond, Option, Some, None, is_some}
use Rattle.file_generations.specs.Generations.{Held, all_held, name_of_file}
use Rattle.portal_base.specs.Names.{is_same, name_of, named_child}
use Rattle.portal_base.specs.declared.files.File.{File}
use Rattle.portal_base.specs.declared.files.FileName.{FileName}
use Rattle.portal_base.specs.declared.names.doc_id.DocId.{DocId}
use Rattle.rights_rule.specs.Rights.{RightSet, contains, holds_any, minus, no_rights, rights_named}
use Rattle.portal_model.specs.declared.entry.Entry.{Entry}
use Rattle.portal_model.specs.declared.entry.Given.{Given}
use Rattle.portal_model.specs.declared.handle.Handle.{Handle}
use Rattle.portal_model.specs.declared.request.AddRequest.{AddRequest}
use Rattle.portal_model.specs.declared.request.NodeOp.{NodeOp}
use Rattle.portal_model.specs.declared.request.NodeRequest.{NodeRequest}
use Rattle.portal_model.specs.declared.request.Request.{Request}
use Rattle.portal_model.specs.declared.request.RightsCall.{RightsCall}
use Rattle.portal_model.specs.declared.state.Connection.{Connection}
use Rattle.portal_model.specs.declared.state.Document.{Document}
use Rattle.portal_model.specs.declared.temporary.OwnTemp.{OwnTemp}
use Rattle.portal_model.specs.Add.{Added, add_files, taken_from_queue, used_again}
use Rattle.portal_model.specs.AddArguments.{document_paths, is_left_out}
use Rattle.portal_model.specs.Content.{OfFile, content_at, file_at}
use Rattle.portal_model.specs.Lawful.{Lawful}
use Rattle.portal_model.specs.Node.{NodeFacts, facts_of}
use Rattle.portal_model.specs.Open.{truncates}
use Rattle.portal_model.specs.Place.{Folder, RootOf, Views, FolderOf, Sight, SightOfFile, SightOfFolder, SightOfTemp, Exported, SightBelow}
use Rattle.portal_model.specs.SeatNames.{found_temp}
use Rattle.portal_model.specs.SetAttr.{sets_by_handle, sets_size}
use Rattle.portal_model.specs.State.{State, connection_of, document_of, held_in, held_of}
use Rattle.portal_model.specs.Step.{after, bus_of, mount_of, reply_at}
use Rattle.portal_model.specs.Valid.{Valid}
use Rattle.app_world.specs.Add.{document_used, names_app}
use Rattle.app_world.specs.Effect.{Effect, Gained, Lost, Gone, Bytes, Turned}
use Rattle.app_world.specs.Laws.{asks}
use Rattle.app_world.specs.Node.{content_named, has_file}
use Rattle.app_world.specs.Revoke.{common}
use Rattle.app_world.specs.RightsTold.{identifies}
use Rattle.app_world.specs.Touched.{is_done}
use Rattle.app_world.specs.Shown.{covering}
use Rattle.app_world.specs.View.{AppView, HeldDocument, Holding, found_content, found_document, found_named, holding_at, knows, view}
use Rattle.app_world.specs.World.{touch}

-- ---- the file that a request on a node changes

-- what a request changes: the file of a name; or a path, where it makes the first file; or the file
-- of a name, which becomes the present one of its path
pub data Changed : Type 0 where
  OfName : FileName → Changed
  AtPath : List ℕ → Changed
  Present : FileName → Changed

abbrev pub option_named : Option FileName → Option Changed
option_named None = None
option_named (Some name) = Some (OfName name)

-- the file of an open handle
abbrev pub file_of_open : Option Handle → Option FileName
file_of_open None = None
file_of_open (Some (Handle.File name node document strict read write)) = Some name
file_of_open (Some (Handle.Folder node entries)) = None

-- the present file of a path
abbrev pub name_of_present : Option File → Option FileName
name_of_present None = None
name_of_present (Some f) = Some (name_of_file f)

abbrev pub present_at : List File → List ℕ → Option FileName
present_at files path = name_of_present (file_at files path)

-- the file of what is seen as a file, or may be one
abbrev pub file_of_sight : List File → Option Sight → Option FileName
file_of_sight files None = None
file_of_sight files (Some (SightOfFile d may_write)) = present_at files d.path
file_of_sight files (Some (SightOfTemp d name may_write)) = Some name
file_of_sight files (Some (SightBelow view d path may_write)) = present_at files path
file_of_sight files (Some (SightOfFolder folder)) = None

abbrev pub path_made : Option (List ℕ) → Option Changed
path_made None = None
path_made (Some path) = Some (AtPath path)

-- In the folder of a document its own name is that of its file. Another name is that of a temporary:
-- nobody else is told of one that is made.
abbrev pub made_in_folder : List ℕ → Folder → Option Changed
made_in_folder name (RootOf view numbers has_views) = None
made_in_folder name (Views applications) = None
made_in_folder name (FolderOf view d may_write) =
    cond (is_same name (name_of d.path)) (Some (AtPath d.path)) None
made_in_folder name (Exported view d path may_write) = path_made (named_child path name)

abbrev pub made_in_sight : List ℕ → Option Sight → Option Changed
made_in_sight name None = None
made_in_sight name (Some (SightOfFile d may_write)) = None
made_in_sight name (Some (SightOfTemp d file may_write)) = None
made_in_sight name (Some (SightBelow view d path may_write)) = path_made (named_child path name)
made_in_sight name (Some (SightOfFolder folder)) = made_in_folder name folder

abbrev pub temp_saved : Option OwnTemp → Option Changed
temp_saved None = None
temp_saved (Some t) = Some (Present t.temp.file)

-- a temporary that is renamed onto the document's own name
abbrev pub saved_in_folder : List OwnTemp → List ℕ → List ℕ → Folder → Option Changed
saved_in_folder temps old_name new_name (RootOf view numbers has_views) = None
saved_in_folder temps old_name new_name (Views applications) = None
saved_in_folder temps old_name new_name (FolderOf view d may_write) =
    cond (is_same new_name (name_of d.path)) (temp_saved (found_temp temps view d.id old_name))
    None
saved_in_folder temps old_name new_name (Exported view d path may_write) = None

abbrev pub saved_in_sight : List OwnTemp → List ℕ → List ℕ → Option Sight → Option Changed
saved_in_sight temps old_name new_name None = None
saved_in_sight temps old_name new_name (Some (SightOfFile d may_write)) = None
saved_in_sight temps old_name new_name (Some (SightOfTemp d file may_write)) = None
saved_in_sight temps old_name new_name (Some (SightBelow view d path may_write)) = None
saved_in_sight temps old_name new_name (Some (SightOfFolder folder)) =
    saved_in_folder temps old_name new_name folder

abbrev pub changed_if : Bool → Option Changed → Option Changed
changed_if b change = cond b change None

abbrev pub has_bytes : List ℕ → Bool
has_bytes [] = false
has_bytes (b ∷ bs) = true

-- What is changed where the request is done: by a FUSE_WRITE of some bytes, a FUSE_SETATTR with
-- FATTR_SIZE, a FUSE_OPEN with O_TRUNC, a FUSE_CREATE, and a FUSE_RENAME onto a document's own
-- name. No other request changes a file of which others may be told.
abbrev pub change_of : List File → NodeFacts → NodeOp → Option Changed
change_of files f (NodeOp.Write fh offset content) =
    changed_if (has_bytes content) (option_named (file_of_open (f.handle fh)))
change_of files f (NodeOp.SetAttr valid fh size) =
    changed_if (sets_size valid)
    (option_named
    (cond (sets_by_handle valid) (file_of_open (f.handle fh)) (file_of_sight files f.sight)))
change_of files f (NodeOp.Open flags) =
    changed_if (truncates flags) (option_named (file_of_sight files f.sight))
change_of files f (NodeOp.Create name flags) = made_in_sight name f.sight
change_of files f (NodeOp.Rename new_parent flags old_name new_name) =
    saved_in_sight f.temps.temps old_name new_name f.sight
change_of files f op = None

abbrev pub change_on : State → NodeRequest → Option Connection → Option Changed
change_on s r None = None
change_on s r (Some c) = change_of s.files (facts_of s c r.node) r.op

-- ---- what is told of it

-- the view has the file, or tells what is at the path
abbrev pub is_seen : AppView → Changed → Bool
is_seen v (OfName name) = has_file v name
is_seen v (AtPath path) = knows v path
is_seen v (Present name) = knows v name.path

abbrev pub if_seen : AppView → Option Changed → Option Changed
if_seen v None = None
if_seen v (Some change) = changed_if (is_seen v change) (Some change)

-- of a request on a node that is done, over a tree that tells its files: what it changes, if the view
-- sees that
abbrev pub change_told : List ℕ → State → ℕ → NodeRequest → Given → Option Changed
change_told app s seat r given =
    changed_if (is_done (reply_at s (asks seat (Request.Node r) given)).answer && s.told)
    (if_seen (view s app) (change_on s r (mount_of (connection_of s.connections seat))))

-- the view has a content for the path, or a folder at or below which it lies
abbrev pub tells_of_path : AppView → List ℕ → Bool
tells_of_path v path =
    is_some (found_content v.contents path) || is_some (covering v.below path)

-- The file is told once and nothing else: as the tree has it after the entry.
pub record IsToldOnce (v : AppView) (after : Held) (name : FileName) (effects : List Effect)
    : Type 0 where
  pub bytes : List ℕ
  pub moment : ℕ
  pub told :
      effects ≡ Bytes name.path name.generation (OfFile name.generation bytes moment) ∷ []
  pub holds : content_named (all_held after) name ≡ OfFile name.generation bytes moment
  pub there :
      (is_some (found_named v.files name) || tells_of_path v name.path) ≡ true

-- A file is told that was made at the path, which is the first that this has had.
pub record IsToldMade (v : AppView) (after : Held) (path : List ℕ) (effects : List Effect)
    : Type 0 where
  pub moment : ℕ
  pub told : effects ≡ Bytes path 0 (OfFile 0 [] moment) ∷ []
  pub holds : content_at after.present path ≡ OfFile 0 [] moment
  pub there : tells_of_path v path ≡ true

-- The file is told that stands at its path from now on.
pub record IsToldPresent (v : AppView) (after : Held) (name : FileName) (effects : List Effect)
    : Type 0 where
  pub bytes : List ℕ
  pub moment : ℕ
  pub told :
      effects ≡ Turned name.path name.generation (OfFile name.generation bytes moment) ∷ []
  pub holds : content_at after.present name.path ≡ OfFile name.generation bytes moment
  pub there : tells_of_path v name.path ≡ true

abbrev pub AreBytesOf : AppView → Held → Option Changed → List Effect → Type 0
AreBytesOf v after None effects = effects ≡ []
AreBytesOf v after (Some (OfName name)) effects = IsToldOnce v after name effects
AreBytesOf v after (Some (AtPath path)) effects = IsToldMade v after path effects
AreBytesOf v after (Some (Present name)) effects = IsToldPresent v after name effects

-- ---- the rights that are told

abbrev pub rights_listed : Request → RightSet
rights_listed (Request.Add a) = rights_named a.names
rights_listed (Request.Grant call) = rights_named call.names
rights_listed (Request.Revoke call) = rights_named call.names
rights_listed request = no_rights

-- the request names the application, to give it rights in the document of this number; an Add tells
-- by no identifier which documents it uses
abbrev pub gives_to : List ℕ → ℕ → Request → Bool
gives_to app number (Request.Add a) = names_app app a
gives_to app number (Request.Grant call) = identifies call.doc number && is_same call.app app
gives_to app number request = false

-- to take them
abbrev pub takes_from : List ℕ → ℕ → Request → Bool
takes_from app number (Request.Revoke call) = identifies call.doc number && is_same call.app app
takes_from app number request = false

abbrev pub deletes_document : ℕ → Request → Bool
deletes_document number (Request.DeleteDocument doc) = identifies doc number
deletes_document number request = false

-- the live document that a Grant names, with all the rights that it lists and the application had
-- not
pub record IsGranted (app : List ℕ) (s : State) (call : RightsCall) (d : Document)
    (more : RightSet) : Type 0 where
  pub live : document_of s.documents d.id.number ≡ Some d
  pub all : more ≡ minus (rights_named call.names) (held_of s.rights app d.id.number)

-- what an Add on this connection has come to as these files of it are through
abbrev pub added_ahead : State → Connection → AddRequest → List DocId → List (List ℕ) → Added
added_ahead s c a numbers ahead = add_files c.who a (taken_from_queue c a s) numbers ahead

-- The document that an Add uses for one of its files, the one that is there to be used again or a
-- new one, with all the rights that it lists and the application had not ahead of this file
pub record IsAdded (app : List ℕ) (s : State) (c : Connection) (a : AddRequest)
    (numbers : List DocId) (d : Document) (more : RightSet) : Type 0 where
  pub ahead : List (List ℕ)
  pub behind : List (List ℕ)
  pub file : document_paths c.queue a ≡ ahead ++ d.path ∷ behind
  pub needed : is_left_out a d.path ≡ false
  pub used :
      let done = added_ahead s c a numbers ahead in
      d ≡ document_used a done.numbers d.path (used_again done.state.documents a d.path)
  pub all :
      let done = added_ahead s c a numbers ahead in
      more ≡ minus (rights_named a.names) (held_of done.state.rights app d.id.number)

abbrev pub IsAddedOn : List ℕ → State → AddRequest → Given → Option Connection → Document →
    RightSet → Type 0
IsAddedOn app s a given None d more = ⊥
IsAddedOn app s a given (Some c) d more = IsAdded app s c a given.numbers d more

abbrev pub IsGivenBy : List ℕ → State → ℕ → Request → Given → Document → RightSet → Type 0
IsGivenBy app s seat (Request.Add a) given d more =
    IsAddedOn app s a given (bus_of (connection_of s.connections seat)) d more
IsGivenBy app s seat (Request.Grant call) given d more = IsGranted app s call d more
IsGivenBy app s seat request given d more = ⊥

-- All the rights that a request lists for the application and that are new to it, and none that it
-- had before the request, in a document with what the files have for it
pub record IsGained (app : List ℕ) (s : State) (seat : ℕ) (request : Request) (given : Given)
    (d : Document) (more : RightSet) (holding : Holding) : Type 0 where
  pub named : gives_to app d.id.number request ≡ true
  pub some : holds_any more ≡ true
  pub listed : contains (rights_listed request) more ≡ true
  pub new : minus more (held_of s.rights app d.id.number) ≡ more
  pub whole : IsGivenBy app s seat request given d more
  pub shows : holding ≡ holding_at s.files d

-- all the rights that a request lists and that the application has in a document that it holds
pub record IsLost (app : List ℕ) (v : AppView) (request : Request) (id : DocId)
    (less : RightSet) : Type 0 where
  pub held : HeldDocument
  pub there : found_document v.documents id.number ≡ Some held
  pub taken : takes_from app id.number request ≡ true
  pub some : holds_any less ≡ true
  pub listed : contains (rights_listed request) less ≡ true
  pub had : contains held.rights less ≡ true
  pub all : less ≡ common (rights_listed request) held.rights

-- a document that the application holds is deleted
pub record IsGone (v : AppView) (request : Request) (id : DocId) : Type 0 where
  pub there : is_some (found_document v.documents id.number) ≡ true
  pub deleted : deletes_document id.number request ≡ true

-- of a request that is none on a node; bytes are not told by it
abbrev pub IsOfDocument : List ℕ → State → ℕ → Request → Given → Effect → Type 0
IsOfDocument app s seat request given (Gained d more holding) =
    IsGained app s seat request given d more holding
IsOfDocument app s seat request given (Lost id less) = IsLost app (view s app) request id less
IsOfDocument app s seat request given (Gone id) = IsGone (view s app) request id
IsOfDocument app s seat request given (Bytes path generation content) = ⊥
IsOfDocument app s seat request given (Turned path generation content) = ⊥

-- rights in a live document are told, and nothing else
abbrev pub IsLiveIn : List Document → Effect → Type 0
IsLiveIn documents (Gained d more holding) = document_of documents d.id.number ≡ Some d
IsLiveIn documents (Lost id less) = ⊥
IsLiveIn documents (Gone id) = ⊥
IsLiveIn documents (Bytes path generation content) = ⊥
IsLiveIn documents (Turned path generation content) = ⊥

abbrev pub EachEffect : (Effect → Type 0) → List Effect → Type 0
EachEffect P [] = Unit {0}
EachEffect P (f ∷ fs) = P f × EachEffect P fs

abbrev pub is_on_node : Request → Bool
is_on_node (Request.Node r) = true
is_on_node request = false

-- ---- the law

-- An entry that is not done tells nothing. A lawful request on a node tells the bytes of the file
-- that it changes, once, if the view has that file or tells what is at the path, and nothing else.
-- Every other request tells of all rights that it lists and that are new to the application, and of
-- documents that it holds. A lawful Add tells of documents that are live after it.
pub record TouchesAreOfWhatIsHeld : Type 0 where
  pub refused :
      (app : List ℕ) (s : State) (e : Entry) → is_done (reply_at s e).answer ≡ false →
      touch app s e ≡ []
  pub nodes :
      (app : List ℕ) (s : State) (seat : ℕ) (r : NodeRequest) (given : Given) →
      Valid s → Lawful s (asks seat (Request.Node r) given) →
      AreBytesOf (view s app) (held_in (after s (asks seat (Request.Node r) given)))
      (change_told app s seat r given) (touch app s (asks seat (Request.Node r) given))
  pub documents :
      (app : List ℕ) (s : State) (seat : ℕ) (request : Request) (given : Given) →
      is_on_node request ≡ false →
      EachEffect (IsOfDocument app s seat request given) (touch app s (asks seat request given))
  pub additions :
      (app : List ℕ) (s : State) (seat : ℕ) (a : AddRequest) (given : Given) → Valid s →
      Lawful s (asks seat (Request.Add a) given) →
      EachEffect (IsLiveIn (after s (asks seat (Request.Add a) given)).documents)
      (touch app s (asks seat (Request.Add a) given))
