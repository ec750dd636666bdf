-- What requests leave of the tree of files: each folder, and what is at each path but that of the
-- one file that a request changes. An exported folder shows all that lies below it (the flag 8 of
-- AddFull, "export directory", in the XDG Desktop Portal documentation), so that a change anywhere
-- there is seen. That a CREATE makes no folder, and needs one, is this project's own.
use Rattle.std.specs.Prelude.{◌≡◌, ℕ, List, [], ◌∷◌, true, false, Option, Some, None}
use Rattle.portal_base.specs.Names.{is_host_path, is_same}
use Rattle.portal_model.specs.declared.entry.Entry.{Entry}
use Rattle.portal_model.specs.declared.entry.Given.{Given}
use Rattle.portal_model.specs.declared.request.NodeRequest.{NodeRequest}
use Rattle.portal_model.specs.declared.request.Request.{Request}
use Rattle.portal_model.specs.declared.state.Connection.{Connection}
use Rattle.portal_model.specs.Content.{content_at, is_folder}
use Rattle.portal_model.specs.Lawful.{Lawful}
use Rattle.portal_model.specs.Node.{node_given, walk_on_node}
use Rattle.portal_model.specs.NodeVerdict.{FileChange, FilesStay, Writes, Resizes, Creates, Adds, Stands, NodeVerdict, Errs, Yields}
use Rattle.portal_model.specs.State.{State, connection_of}
use Rattle.portal_model.specs.Step.{after, all_told, mount_of}
use Rattle.portal_model.specs.Valid.{Valid}

-- ---- the file that an entry changes

-- what comes of a request on a node changes the files so; a refusal changes none
abbrev pub change_of : Option NodeVerdict → FileChange
change_of None = FilesStay
change_of (Some (Errs errno)) = FilesStay
change_of (Some (Yields d)) = d.file

abbrev pub change_on : State → NodeRequest → Given → Option Connection → FileChange
change_on s r given None = FilesStay
change_on s r given (Some c) =
    change_of (node_given (walk_on_node (all_told c.seat s) c r) given)

-- a request that is none on a node changes no file
abbrev pub change_by : State → ℕ → Request → Given → FileChange
change_by s seat (Request.Node r) given =
    change_on s r given (mount_of (connection_of s.connections seat))
change_by s seat request given = FilesStay

-- The path of the file that is written, cut or made, or that another file comes to stand at. A write
-- of no bytes changes none, and a file that is made beside the present ones stands at no path.
abbrev pub path_of_change : FileChange → Option (List ℕ)
path_of_change FilesStay = None
path_of_change (Writes name offset [] now) = None
path_of_change (Writes name offset (b ∷ bs) now) = Some name.path
path_of_change (Resizes name size now) = Some name.path
path_of_change (Creates path now) = Some path
path_of_change (Adds name now) = None
path_of_change (Stands name) = Some name.path

-- the path of the file that an entry changes
abbrev pub path_changed : State → Entry → Option (List ℕ)
path_changed s e = path_of_change (change_by s e.seat e.request e.given)

-- the path is another one
abbrev pub IsOther : List ℕ → Option (List ℕ) → Type 0
IsOther path None = Unit {0}
IsOther path (Some changed) = is_same path changed ≡ false

-- ---- the laws

-- The same paths are folders after an entry as before. (A CREATE needs its parent to be a folder,
-- so each folder above what it makes was there.)
abbrev pub FoldersStay : Type 0
FoldersStay = (s : State) (e : Entry) (path : List ℕ) → Valid s → Lawful s e →
    is_host_path path ≡ true → is_folder (after s e).files path ≡ is_folder s.files path

-- At another path than that of the file that is changed there is the same after an entry as before:
-- the file with its bytes and its moment, the folder, or nothing, with room for a file or without.
abbrev pub OtherContentsStay : Type 0
OtherContentsStay = (s : State) (e : Entry) (path : List ℕ) → Valid s → Lawful s e →
    is_host_path path ≡ true → IsOther path (path_changed s e) →
    content_at (after s e).files path ≡ content_at s.files path
