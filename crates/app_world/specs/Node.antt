-- A request on a node, in the view of the application that asks, and in that of another.
use Rattle.std.specs.Prelude.{ℕ, zero, suc, ◌+◌, ◌==◌, nat_lt, List, [], ◌∷◌, ◌++◌, length, map, not, Bool, false, Option, Some, None, cond, option_map}
use Rattle.std.specs.List.{filter, find}
use Rattle.portal_base.specs.Content.{file_named}
use Rattle.portal_base.specs.FileChanges.{cut_to, overlaid}
use Rattle.file_generations.specs.Generations.{all_held}
use Rattle.portal_base.specs.declared.files.File.{File}
use Rattle.portal_base.specs.declared.files.FileName.{FileName}
use Rattle.portal_model.specs.declared.entry.Given.{Given}
use Rattle.portal_model.specs.declared.handle.Handle.{Handle}
use Rattle.portal_model.specs.declared.naming.Naming.{Naming}
use Rattle.portal_model.specs.declared.place.Place.{Place}
use Rattle.portal_model.specs.declared.reply.Answer.{Answer}
use Rattle.portal_model.specs.declared.reply.Code.TheVariants as Code
use Rattle.portal_model.specs.declared.request.NodeRequest.{NodeRequest}
use Rattle.portal_model.specs.declared.state.Connection.{Connection}
use Rattle.portal_model.specs.declared.temporary.Temp.{Temp}
use Rattle.portal_model.specs.Bus.{is_tree, moment_given}
use Rattle.portal_model.specs.Content.{Content, OfFile, content_of}
use Rattle.portal_model.specs.Errno.{eio}
use Rattle.portal_model.specs.Node.{NodeFacts, node_given, node_walk, walk_on_node}
use Rattle.portal_model.specs.NodeVerdict.{FileChange, FilesStay, Writes, Resizes, Creates, Adds, Stands, HandleChange, HandlesStay, Opens, Closes, NameChange, NamesStay, Names, Temps, NodeDoing, NodeVerdict, Errs, Yields, Room}
use Rattle.portal_model.specs.Place.{FolderOf, RootOf, Sight, SightBelow, SightOfFolder, SightOfTemp, id_of_node, place_named, sight_at_path, view_of_node}
use Rattle.portal_model.specs.Reach.{Reach, Reaching, no_reach}
use Rattle.portal_model.specs.SeatNames.{SeatTemps, TempChange, added_after, naming_of, temp_of, temps_after, with_naming}
use Rattle.portal_model.specs.State.{State, held_in}
use Rattle.portal_model.specs.Walk.{Walk, walked_with}
use Rattle.portal_model.specs.Ordered.{put}
use Rattle.app_world.specs.Effect.{Effect, Bytes, Turned, apply_all, with_content, with_named}
use Rattle.app_world.specs.Own.{Own}
use Rattle.app_world.specs.Shown.{bytes_in, is_file, own_bytes, own_content, own_file, own_listed, own_looks, succeeding}
use Rattle.app_world.specs.View.{AppView, HeldDocument, OwnConnection, OwnHandle, ahead, found_content, found_document, number_of, prune, knows, view}

-- ---- what the application sees at a node

-- the application sees a document's file, or the folder that it is, where it may read it
abbrev pub own_sight : ℕ → Option HeldDocument → Option Sight
own_sight view None = None
own_sight view (Some d) =
    cond d.rights.read (Some (sight_at_path view d.document d.document.folder d.rights.write)) None

-- and its folder
abbrev pub own_sight_of_folder : ℕ → Option HeldDocument → Option Sight
own_sight_of_folder view None = None
own_sight_of_folder view (Some d) =
    cond d.rights.read (Some (SightOfFolder (FolderOf view d.document d.rights.write))) None

-- and what it named below one
abbrev pub own_sight_below : ℕ → List ℕ → Option HeldDocument → Option Sight
own_sight_below view path None = None
own_sight_below view path (Some d) =
    cond d.rights.read (Some (SightBelow view d.document path d.rights.write)) None

-- and a temporary of one
abbrev pub own_sight_of_temp : FileName → Option HeldDocument → Option Sight
own_sight_of_temp file None = None
own_sight_of_temp file (Some d) =
    cond d.rights.read (Some (SightOfTemp d.document file d.rights.write)) None

abbrev pub may_read : HeldDocument → Bool
may_read d = d.rights.read

-- the numbers of the documents that it sees, in rising order
abbrev pub own_numbers : List HeldDocument → List ℕ
own_numbers documents = map number_of (filter may_read documents)

-- of all views an application has its own alone
abbrev pub in_own_view : ℕ → Option Sight → Option Sight
in_own_view zero sight = sight
in_own_view (suc k) sight = None

abbrev pub own_sight_of_naming : AppView → ℕ → Option Naming → Option Sight
own_sight_of_naming v view None = None
own_sight_of_naming v view (Some n) =
    cond (n.view == view)
    (own_sight_below view n.path (found_document v.documents n.document.number)) None

abbrev pub own_sight_of_own_temp : AppView → ℕ → Option Temp → Option Sight
own_sight_of_own_temp v view None = None
own_sight_of_own_temp v view (Some t) =
    cond (t.view == view)
    (own_sight_of_temp t.file (found_document v.documents t.document.number)) None

-- the folder of all views is the host's alone
abbrev pub own_sight_of_place : AppView → Option Naming → Option Temp → Place → Option Sight
own_sight_of_place v naming temp (Place.Root view) =
    in_own_view view (Some (SightOfFolder (RootOf view (own_numbers v.documents) false)))
own_sight_of_place v naming temp Place.ByApp = None
own_sight_of_place v naming temp (Place.Folder view id) =
    in_own_view view (own_sight_of_folder view (found_document v.documents id.number))
own_sight_of_place v naming temp (Place.File view id) =
    in_own_view view (own_sight view (found_document v.documents id.number))
own_sight_of_place v naming temp (Place.Named view k) =
    in_own_view view (own_sight_of_naming v view naming)
own_sight_of_place v naming temp (Place.Temporary view k) =
    in_own_view view (own_sight_of_own_temp v view temp)

abbrev pub own_sight_at : AppView → Option Naming → Option Temp → Option Place → Option Sight
own_sight_at v naming temp None = None
own_sight_at v naming temp (Some p) = own_sight_of_place v naming temp p

-- on the connection that asks
abbrev pub own_place : AppView → OwnConnection → ℕ → Option Sight
own_place v c node =
    own_sight_at v (naming_of c.namings (id_of_node node)) (temp_of c.temps (id_of_node node))
    (place_named node)

-- ---- what a request depends on

abbrev pub own_handle_of : List OwnHandle → ℕ → Option Handle
own_handle_of handles fh = option_map (λ h. h.handle) (find (λ h. h.fh == fh) handles)

-- which rights the application has now in a document, where the node is in its own view
abbrev pub own_reach_in : ℕ → Option HeldDocument → Reach
own_reach_in zero (Some d) = record { read = d.rights.read; write = d.rights.write }
own_reach_in zero None = no_reach
own_reach_in (suc k) d = no_reach

abbrev pub own_reach : AppView → Reaching
own_reach v node number =
    own_reach_in (view_of_node node) (found_document v.documents number)

abbrev pub own_room : AppView → OwnConnection → Room
own_room v c = record {
  opens = c.opens;
  full = not (nat_lt (length c.handles) v.handles);
}

-- the generation that is told with the request, whatever the path: one request makes one temporary
-- at most
abbrev pub generation_told : Option ℕ → List ℕ → ℕ
generation_told None path = 0
generation_told (Some generation) path = generation

abbrev pub own_temps : OwnConnection → Option ℕ → SeatTemps
own_temps c generation =
    record { temps = c.temps; added = c.added; next = generation_told generation }

abbrev pub own_facts : AppView → OwnConnection → Option ℕ → ℕ → NodeFacts
own_facts v c generation node = record {
  sight = own_place v c node;
  sight_of = own_place v c;
  handle = own_handle_of c.handles;
  reach = own_reach v;
  bytes = own_bytes v;
  room = own_room v c;
  namings = c.namings;
  temps = own_temps c generation;
  file_limit = v.file_bytes;
}

abbrev pub own_walk : AppView → OwnConnection → Option ℕ → NodeRequest → Walk NodeVerdict
own_walk v c generation r = node_walk (own_facts v c generation r.node) r r.op

-- ---- the view after

abbrev pub own_opened : ℕ → OwnHandle → OwnConnection → OwnConnection
own_opened seat handle c =
    cond (c.seat == seat)
    (record c { opens = c.opens + 1; handles = c.handles ++ handle ∷ [] }) c

abbrev pub own_closed : ℕ → ℕ → OwnConnection → OwnConnection
own_closed seat fh c =
    cond (c.seat == seat) (record c { handles = filter (λ h. not (h.fh == fh)) c.handles }) c

-- the next handle of the connection that asks
abbrev pub next_own_handle : OwnConnection → Handle → OwnHandle
next_own_handle c handle = record { fh = c.opens + 1; handle = handle }

abbrev pub own_connections_after :
    OwnConnection → HandleChange → List OwnConnection → List OwnConnection
own_connections_after c HandlesStay connections = connections
own_connections_after c (Opens handle) connections =
    map (own_opened c.seat (next_own_handle c handle)) connections
own_connections_after c (Closes fh) connections = map (own_closed c.seat fh) connections

-- a path below a document that is a folder was named on the connection that asks
abbrev pub own_named : ℕ → Naming → OwnConnection → OwnConnection
own_named seat naming c =
    cond (c.seat == seat) (record c { namings = with_naming c.namings naming }) c

-- its temporaries changed
abbrev pub own_with_temps : TempChange → OwnConnection → OwnConnection
own_with_temps change c =
    record c { temps = temps_after change c.added c.temps; added = added_after change c.added }

abbrev pub own_temps_changed : ℕ → TempChange → OwnConnection → OwnConnection
own_temps_changed seat change c = cond (c.seat == seat) (own_with_temps change c) c

abbrev pub own_connections_named :
    OwnConnection → NameChange → List OwnConnection → List OwnConnection
own_connections_named c NamesStay connections = connections
own_connections_named c (Names naming) connections = map (own_named c.seat naming) connections
own_connections_named c (Temps change) connections =
    map (own_temps_changed c.seat change) connections

abbrev pub own_connections_then :
    OwnConnection → NodeDoing → List OwnConnection → List OwnConnection
own_connections_then c d connections =
    own_connections_named c d.names (own_connections_after c d.handle connections)

-- ---- what a change of a file is to a view

-- the view has the file of a name: by that, or since it stands at a path of which the view tells
abbrev pub has_file : AppView → FileName → Bool
has_file v name = is_file (own_file v name)

-- the file of a name has these bytes, since a moment
abbrev pub has_bytes : FileName → List ℕ → ℕ → Effect
has_bytes name bytes now =
    Bytes name.path name.generation (OfFile name.generation bytes now)

abbrev pub bytes_at : AppView → FileName → List ℕ → ℕ → List Effect
bytes_at v name bytes now = cond (has_file v name) (has_bytes name bytes now ∷ []) []

-- the first file of a path
abbrev pub first_of : List ℕ → FileName
first_of path = record { path = path; generation = 0 }

abbrev pub made_at : AppView → List ℕ → ℕ → List Effect
made_at v path now = cond (knows v path) (has_bytes (first_of path) [] now ∷ []) []

abbrev pub turned_at : AppView → FileName → Content → List Effect
turned_at v name content =
    cond (knows v name.path) (Turned name.path name.generation content ∷ []) []

-- What a change of a file is to a view, where each file is this. A write of no bytes changes
-- nothing. Of a new file that isn't present nobody else is told; when it becomes present, all are
-- whose view tells what is at its path.
abbrev pub file_effects : AppView → (FileName → Content) → FileChange → List Effect
file_effects v file FilesStay = []
file_effects v file (Writes name offset [] now) = []
file_effects v file (Writes name offset (b ∷ bs) now) =
    bytes_at v name (overlaid (bytes_in (file name)) offset (b ∷ bs)) now
file_effects v file (Resizes name size now) =
    bytes_at v name (cut_to size (bytes_in (file name))) now
file_effects v file (Creates path now) = made_at v path now
file_effects v file (Adds name now) = []
file_effects v file (Stands name) = turned_at v name (file name)

-- who makes such a file has it
abbrev pub own_effects : AppView → FileChange → List Effect
own_effects v (Adds name now) = has_bytes name [] now ∷ []
own_effects v FilesStay = file_effects v (own_file v) FilesStay
own_effects v (Writes name offset content now) =
    file_effects v (own_file v) (Writes name offset content now)
own_effects v (Resizes name size now) = file_effects v (own_file v) (Resizes name size now)
own_effects v (Creates path now) = file_effects v (own_file v) (Creates path now)
own_effects v (Stands name) = file_effects v (own_file v) (Stands name)

-- an opened file is named from then on, and so is its path
abbrev pub with_opened : Handle → AppView → AppView
with_opened (Handle.File name node document strict read write) v = record v {
  contents =
      put ahead
      (with_content name.path (own_content v name.path) (found_content v.contents name.path))
      v.contents;
  files = with_named name (own_file v name) v.files;
}
with_opened (Handle.Folder node names) v = v

abbrev pub with_handles : HandleChange → AppView → AppView
with_handles HandlesStay v = v
with_handles (Opens handle) v = with_opened handle v
with_handles (Closes fh) v = v

-- what was named by a closed file alone, or by a temporary that is none any more, leaves the view
abbrev pub own_node_done : AppView → OwnConnection → NodeDoing → AppView
own_node_done v c d =
    apply_all
    (prune (record (with_handles d.handle v) {
      connections = own_connections_then c d v.connections;
    }))
    (own_effects v d.file)

-- ---- the answer

abbrev pub own_settled_on_node : AppView → OwnConnection → Option NodeVerdict → AppView × Answer
own_settled_on_node v c None = (v, Answer.Refused (Code.Errno eio))
own_settled_on_node v c (Some (Errs errno)) = (v, Answer.Refused (Code.Errno errno))
own_settled_on_node v c (Some (Yields d)) = (own_node_done v c d, Answer.Node d.answer)

-- the looks and the names listed are those that the view shows, up to a call that failed
abbrev pub own_node_given : AppView → Walk NodeVerdict → Own → Option NodeVerdict
own_node_given v walk own =
    walked_with walk (moment_given own.now) (own_listed v walk)
    (succeeding own.fault own.looks (own_looks v walk)) (is_tree own.fault)

-- the view after, and the answer
abbrev pub own_node_answer : AppView → OwnConnection → NodeRequest → Own → AppView × Answer
own_node_answer v c r own =
    own_settled_on_node v c (own_node_given v (own_walk v c own.generation r) own)

-- ---- what it changes of another's view

-- the file of a name, as these have it
abbrev pub content_named : List File → FileName → Content
content_named files name = content_of (file_named files name) false false

abbrev pub verdict_touch : List ℕ → State → Option NodeVerdict → List Effect
verdict_touch app s None = []
verdict_touch app s (Some (Errs errno)) = []
verdict_touch app s (Some (Yields d)) =
    cond s.told (file_effects (view s app) (content_named (all_held (held_in s))) d.file) []

abbrev pub node_touch : List ℕ → State → NodeRequest → Given → Option Connection → List Effect
node_touch app s r given None = []
node_touch app s r given (Some c) =
    verdict_touch app s (node_given (walk_on_node s c r) given)
