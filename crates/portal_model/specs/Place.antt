-- The nodes of the file view: the arithmetic of their numbers, and what a caller finds at them.
-- A number is view * 2^36 + kind * 2^32 + id. The view 0 is the caller's own, the view k that of
-- application k, for the host alone.
use Rattle.std.specs.Prelude.{ℕ, zero, suc, ◌==◌, ◌&&◌, List, map, Bool, true, false, Option, Some, None, cond, option_map}
use Rattle.std.specs.List.{filter}
use Rattle.portal_base.specs.declared.files.FileName.{FileName}
use Rattle.portal_base.specs.declared.who.Who.{Who}
use Rattle.portal_model.specs.declared.naming.Naming.{Naming}
use Rattle.portal_model.specs.declared.place.Place.{Place}
use Rattle.portal_model.specs.declared.rights.Right.TheVariants.{Read, Write}
use Rattle.portal_model.specs.declared.state.Connection.{Connection}
use Rattle.portal_model.specs.declared.state.Document.{Document}
use Rattle.portal_model.specs.declared.state.Triple.{Triple}
use Rattle.portal_model.specs.declared.temporary.Temp.{Temp}
use Rattle.portal_model.specs.Applications.{name_of_number}
use Rattle.portal_model.specs.ListDocuments.{lower}
use Rattle.portal_model.specs.Ordered.{put_all}
use Rattle.portal_model.specs.Reach.{Reach, Reaching, no_reach}
use Rattle.portal_model.specs.SeatNames.{naming_of, temp_of}
use Rattle.portal_model.specs.State.{State, document_of, has, is_host, who_has}
pub use Rattle.portal_model.specs.NodeNumbers.{view_of_node, kind_of_node, id_of_node, node_number}

-- ---- numbers

-- kind 0: the root of a view has the identifier 1, and in view 0 the folder of all views has 2
abbrev pub place_of_kind_0 : ℕ → ℕ → Option Place
place_of_kind_0 view id =
    cond (id == 1) (Some (Place.Root view))
    (cond (id == 2 && view == 0) (Some Place.ByApp) None)

-- what a connection named has numbers from 1
abbrev pub place_from_one : (ℕ → Place) → ℕ → Option Place
place_from_one place k = cond (k == 0) None (Some (place k))

-- kind 1 is a document's folder, kind 2 a document's file or the folder that it exports, kind 4 a
-- name below an exported folder, kind 5 a temporary
abbrev pub place_of_parts : ℕ → ℕ → ℕ → Option Place
place_of_parts view kind id =
    cond (kind == 0) (place_of_kind_0 view id)
    (cond (kind == 1) (Some (Place.Folder view (record { number = id })))
    (cond (kind == 2) (Some (Place.File view (record { number = id })))
    (cond (kind == 4) (place_from_one (Place.Named view) id)
    (cond (kind == 5) (place_from_one (Place.Temporary view) id) None))))

-- what a number names, whoever asks
abbrev pub place_named : ℕ → Option Place
place_named node = place_of_parts (view_of_node node) (kind_of_node node) (id_of_node node)

abbrev pub root_node : ℕ → ℕ
root_node view = node_number view 0 1

abbrev pub by_app_node : ℕ
by_app_node = node_number 0 0 2

abbrev pub folder_node : ℕ → ℕ → ℕ
folder_node view number = node_number view 1 number

abbrev pub file_node : ℕ → ℕ → ℕ
file_node view number = node_number view 2 number

abbrev pub named_node : ℕ → ℕ → ℕ
named_node view k = node_number view 4 k

abbrev pub temp_node : ℕ → ℕ → ℕ
temp_node view k = node_number view 5 k

-- the number of a place
abbrev pub node_of : Place → ℕ
node_of (Place.Root view) = root_node view
node_of Place.ByApp = by_app_node
node_of (Place.Folder view id) = folder_node view id.number
node_of (Place.File view id) = file_node view id.number
node_of (Place.Named view k) = named_node view k
node_of (Place.Temporary view k) = temp_node view k

-- the file of a document, in the caller's own view
abbrev pub is_own_file : ℕ → Bool
is_own_file node = view_of_node node == 0 && kind_of_node node == 2

-- ---- what a caller sees

-- a folder, as a caller sees it
pub data Folder : Type 0 where
  -- the root of a view: its number, the numbers of the documents that are seen in it, in rising
  -- order, and whether the folder of all views stands in it
  RootOf : ℕ → List ℕ → Bool → Folder
  -- the folder of all views: the names of the numbered applications, in order of their numbers
  Views : List (List ℕ) → Folder
  -- the folder of a document: the view, the document, and whether the subject may write the file
  FolderOf : ℕ → Document → Bool → Folder
  -- an exported folder, or one below it: the view, the document, the path, and whether the subject
  -- may write there
  Exported : ℕ → Document → List ℕ → Bool → Folder

-- what a caller sees at a place
pub data Sight : Type 0 where
  -- a document's file: the document, and whether the subject may write the file
  SightOfFile : Document → Bool → Sight
  -- a temporary: its document, its file, and the same
  SightOfTemp : Document → FileName → Bool → Sight
  -- a file or a folder, as a look of its path tells: the exported one or what lies below it, told
  -- by the view, the document, the path and the same
  SightBelow : ℕ → Document → List ℕ → Bool → Sight
  SightOfFolder : Folder → Sight

-- at the path of a document, by whether it is a folder
abbrev pub sight_at_path : ℕ → Document → Bool → Bool → Sight
sight_at_path view d true may_write = SightBelow view d d.path may_write
sight_at_path view d false may_write = SightOfFile d may_write

-- a document's file is seen exactly where the subject has the right to read the document
abbrev pub sight_of_document : ℕ → List Triple → Who → Option Document → Option Sight
sight_of_document view rights who None = None
sight_of_document view rights who (Some d) =
    cond (who_has rights who d.id.number Read)
    (Some (sight_at_path view d d.folder (who_has rights who d.id.number Write))) None

-- and so is its folder
abbrev pub sight_of_folder : ℕ → List Triple → Who → Option Document → Option Sight
sight_of_folder view rights who None = None
sight_of_folder view rights who (Some d) =
    cond (who_has rights who d.id.number Read)
    (Some (SightOfFolder (FolderOf view d (who_has rights who d.id.number Write)))) None

-- and what was named below an exported folder
abbrev pub sight_below : ℕ → List Triple → Who → List ℕ → Option Document → Option Sight
sight_below view rights who path None = None
sight_below view rights who path (Some d) =
    cond (who_has rights who d.id.number Read)
    (Some (SightBelow view d path (who_has rights who d.id.number Write))) None

-- and a temporary
abbrev pub sight_of_temp : List Triple → Who → FileName → Option Document → Option Sight
sight_of_temp rights who file None = None
sight_of_temp rights who file (Some d) =
    cond (who_has rights who d.id.number Read)
    (Some (SightOfTemp d file (who_has rights who d.id.number Write))) None

abbrev pub may_read : List Triple → Who → Document → Bool
may_read rights who d = who_has rights who d.id.number Read

-- the numbers of the documents that a subject sees
abbrev pub numbers_seen : List Triple → Who → List Document → List ℕ
numbers_seen rights who documents =
    map (λ d. d.id.number) (put_all lower (filter (may_read rights who) documents))

-- the folder of all views stands in the host's own root
abbrev pub has_views : Who → ℕ → Bool
has_views caller view = is_host caller && view == 0

-- The subject of a view: the caller of view 0, and application k of view k, which is there for the
-- host alone.
abbrev pub subject_of : List (List ℕ) → Who → ℕ → Option Who
subject_of applications caller zero = Some caller
subject_of applications Who.Host (suc k) =
    option_map Who.App (name_of_number applications (suc k))
subject_of applications (Who.App app) (suc k) = None

-- what is seen in a view, by its subject, and nothing where the view isn't there
abbrev pub seen_by : Option Who → (Who → Option Sight) → Option Sight
seen_by None sight = None
seen_by (Some who) sight = sight who

abbrev pub sight_of_root : State → Who → ℕ → Who → Option Sight
sight_of_root s caller view who =
    Some (SightOfFolder (RootOf view (numbers_seen s.rights who s.documents)
    (has_views caller view)))

abbrev pub sight_of_views : State → Who → Option Sight
sight_of_views s caller = cond (is_host caller) (Some (SightOfFolder (Views s.applications))) None

-- A name below an exported folder, and a temporary, are there in their own view alone.
abbrev pub sight_of_naming : State → ℕ → Who → Option Naming → Option Sight
sight_of_naming s view who None = None
sight_of_naming s view who (Some n) =
    cond (n.view == view)
    (sight_below view s.rights who n.path (document_of s.documents n.document.number)) None

abbrev pub sight_of_own_temp : State → ℕ → Who → Option Temp → Option Sight
sight_of_own_temp s view who None = None
sight_of_own_temp s view who (Some t) =
    cond (t.view == view)
    (sight_of_temp s.rights who t.file (document_of s.documents t.document.number)) None

-- What a caller sees at a place. What the connection that asks has by the number of a node, below
-- an exported folder or as a temporary, is passed over at other places.
abbrev pub sight_of_place : State → Who → Option Naming → Option Temp → Place → Option Sight
sight_of_place s caller naming temp (Place.Root view) =
    seen_by (subject_of s.applications caller view) (sight_of_root s caller view)
sight_of_place s caller naming temp Place.ByApp = sight_of_views s caller
sight_of_place s caller naming temp (Place.Folder view id) =
    seen_by (subject_of s.applications caller view)
    (λ who. sight_of_folder view s.rights who (document_of s.documents id.number))
sight_of_place s caller naming temp (Place.File view id) =
    seen_by (subject_of s.applications caller view)
    (λ who. sight_of_document view s.rights who (document_of s.documents id.number))
sight_of_place s caller naming temp (Place.Named view k) =
    seen_by (subject_of s.applications caller view) (λ who. sight_of_naming s view who naming)
sight_of_place s caller naming temp (Place.Temporary view k) =
    seen_by (subject_of s.applications caller view) (λ who. sight_of_own_temp s view who temp)

abbrev pub sight_at : State → Who → Option Naming → Option Temp → Option Place → Option Sight
sight_at s caller naming temp None = None
sight_at s caller naming temp (Some p) = sight_of_place s caller naming temp p

-- what a caller sees at a node
abbrev pub place_of : State → Who → Option Naming → Option Temp → ℕ → Option Sight
place_of s caller naming temp node = sight_at s caller naming temp (place_named node)

-- what a connection has by the number in a node: named below an exported folder, and as a temporary
abbrev pub naming_on : Connection → ℕ → Option Naming
naming_on c node = naming_of c.namings (id_of_node node)

abbrev pub temp_on : Connection → ℕ → Option Temp
temp_on c node = temp_of c.temps (id_of_node node)

-- what a connection that asks sees at a node
abbrev pub sight_on : State → Connection → ℕ → Option Sight
sight_on s c node = place_of s c.who (naming_on c node) (temp_on c node) node

-- ---- the rights that are looked at anew

-- what a view's subject may do now with the file of a document
abbrev pub reach_of_subject : State → ℕ → Option Who → Reach
reach_of_subject s number None = no_reach
reach_of_subject s number (Some who) =
    record { read = has s who number Read; write = has s who number Write }

-- by the view of a node
abbrev pub reach_at : State → Who → Reaching
reach_at s caller node number =
    reach_of_subject s number (subject_of s.applications caller (view_of_node node))
