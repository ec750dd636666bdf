-- FUSE_OPENDIR behind the room that was taken for a handle: the entries, and the handle on them.
use Rattle.std.specs.Prelude.{◌≡◌, ◌++◌, ℕ, List, [], Option, Some, None}
use Rattle.portal_base.specs.declared.files.Look.{Look}
use Rattle.portal_base.specs.declared.files.ChildName.{ChildName}
use Rattle.host_tree.specs.Trees.{TreeIs}
use Rattle.host_tree.specs.declared.tree.LookAnswer.{LookAnswer}
use Rattle.host_tree.specs.declared.tree.LookAnswer.TheVariants as look
use Rattle.portal_model.specs.declared.handle.Handle.{Handle}
use Rattle.portal_model.specs.declared.reply.Answer.{Answer}
use Rattle.portal_model.specs.declared.reply.Code.TheVariants as Code
use Rattle.portal_model.specs.declared.reply.DirName.{DirName}
use Rattle.portal_model.specs.declared.reply.NodeAnswer.TheVariants as NodeAnswer
use Rattle.portal_model.specs.declared.request.NodeOp.TheVariants as NodeOp
use Rattle.portal_model.specs.declared.request.NodeRequest.{NodeRequest}
use Rattle.portal_model.specs.declared.naming.Naming.{Naming}
use Rattle.portal_model.specs.declared.state.Connection.{Connection}
use Rattle.portal_model.specs.declared.state.Document.{Document}
use Rattle.portal_model.specs.declared.temporary.OwnTemp.{OwnTemp}
use Rattle.portal_model.specs.declared.temporary.Temp.{Temp}
use Rattle.portal_model.specs.Errno.{eio}
use Rattle.portal_model.specs.NodeVerdict.{NodeVerdict, HandlesStay, Opens, next_handle}
use Rattle.portal_model.specs.OpenDir.{names_of_children, open_dir, parent_of_exported, with_dots}
use Rattle.portal_model.specs.Place.{Exported, FolderOf, RootOf, Sight, SightBelow, SightOfFile, SightOfFolder, SightOfTemp, Views}
use Rattle.portal_model.specs.Walk.{Answers, Walk}
use Rattle.app_view.specs.Entries.{behind_look, opened_with}
use Rattle.open_handles.specs.Opened.{HandleTable}
use Rattle.node_looks.specs.Done.{DoneBy, room_in}
use Rattle.node_looks.specs.OpenHandles.{Handled}
use Rattle.node_looks.specs.Served.{HasAt}
use Rattle.node_looks.specs.declared.served.NodeDone.{NodeDone}
use Rattle.file_ops.specs.Tries.{done_after}
use Rattle.file_ops.specs.declared.folders.FolderSeen.{FolderSeen}

-- a connection has these by the number in a node, and these temporaries
pub record HasTemps (node : ℕ) (naming : Option Naming) (temp : Option Temp)
    (temps : List OwnTemp) (c : Connection) : Type 0 where
  pub at : HasAt node naming temp c
  pub temps_are : c.temps ≡ temps

-- the folder that is seen is opened with the entries that it has where a look shows this, and with
-- these behind them
pub record Lists (r : NodeRequest) (sight : Option Sight) (seat : ℕ) (shown : Look)
    (own : List DirName) (table : HandleTable) (answer : Answer) (after : HandleTable)
    : Type 0 where
  pub entries : List DirName
  pub walk : behind_look shown (open_dir r sight (room_in table seat) [])
      ≡ Answers (opened_with r (room_in table seat) entries)
  pub number : answer ≡ Answer.Node (NodeAnswer.Opened (next_handle (room_in table seat)))
  pub handled : Handled seat (Opens (Handle.Folder r.node (entries ++ own))) table after

-- by the look for the document of a folder
abbrev pub ListsBehind : NodeRequest → Option Sight → ℕ → LookAnswer → List DirName → HandleTable
    → Answer → HandleTable → Type 0
ListsBehind r sight seat (look.Is shown) own table answer after =
    Lists r sight seat shown own table answer after
ListsBehind r sight seat look.Failed own table answer after =
    (answer ≡ Answer.Refused (Code.Errno eio)) × Handled seat HandlesStay table after

-- the folder of a document, which is looked at by its path where it is opened
abbrev pub folder_told : FolderSeen → ℕ × Document
folder_told f = (f.view, f.document.now)

abbrev pub home_in : Sight → Option (ℕ × Document)
home_in (SightOfFile d may_write) = None
home_in (SightOfTemp d file may_write) = None
home_in (SightBelow view d path may_write) = None
home_in (SightOfFolder (RootOf view numbers has_views)) = None
home_in (SightOfFolder (Views applications)) = None
home_in (SightOfFolder (FolderOf view d may_write)) = Some (view, d)
home_in (SightOfFolder (Exported view d path may_write)) = None

-- ---- a folder whose names are listed

-- the next handle, on a folder at this path with these names
pub record ListedBelow (r : NodeRequest) (view : ℕ) (d : Document) (path : List ℕ)
    (children : List ChildName) (seat : ℕ) (table : HandleTable) (answer : Answer)
    (after : HandleTable) : Type 0 where
  pub number : answer ≡ Answer.Node (NodeAnswer.Opened (next_handle (room_in table seat)))
  pub handled : Handled seat (Opens (Handle.Folder r.node
      (with_dots r.node (parent_of_exported view d path) (names_of_children children)))) table after

-- What was done behind the look that showed a folder: it is what the walk comes to from there on.
pub record OpensBelow (walk : Walk NodeVerdict) (seat : ℕ) (table : HandleTable) (old : TreeIs)
    (done : NodeDone) (after : HandleTable) (new : TreeIs) : Type 0 where
  pub behind : NodeDone
  pub looked : done ≡ done_after Look.Folder behind
  pub opened : DoneBy walk NodeOp.OpenDir seat table old behind after new
