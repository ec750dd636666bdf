-- Temporaries, and who is told of them. A temporary is a file that a connection made beside a
-- document's own, to be renamed onto its name (FUSE_CREATE and FUSE_RENAME of
-- include/uapi/linux/fuse.h). Until then it is the file of that connection alone.
use Rattle.std.specs.Prelude.{◌≡◌, ℕ, List, [], false, Some, None}
use Rattle.std.specs.List.{All}
use Rattle.portal_base.specs.Content.{file_named}
use Rattle.file_generations.specs.Generations.{Held}
use Rattle.portal_base.specs.declared.files.FileName.{FileName}
use Rattle.portal_model.specs.declared.entry.Entry.{Entry}
use Rattle.portal_model.specs.declared.entry.Given.{Given}
use Rattle.portal_model.specs.declared.opening.OpeningState.{OpeningState}
use Rattle.portal_model.specs.declared.request.NodeRequest.{NodeRequest}
use Rattle.portal_model.specs.declared.request.Request.{Request}
use Rattle.portal_model.specs.declared.state.Connection.{Connection}
use Rattle.portal_model.specs.declared.temporary.OwnTemp.{OwnTemp}
use Rattle.portal_model.specs.History.{Legal, run}
use Rattle.portal_model.specs.Lawful.{Lawful}
use Rattle.portal_model.specs.Opening.{opened_over}
use Rattle.portal_model.specs.State.{State, connection_of, is_app}
use Rattle.portal_model.specs.Step.{mount_of}
use Rattle.portal_model.specs.Valid.{Valid}
use Rattle.app_world.specs.Laws.{asks}
use Rattle.app_world.specs.Node.{has_file}
use Rattle.app_world.specs.View.{holds_name, view}
use Rattle.app_world.specs.World.{touch}
use Rattle.file_laws.specs.Touches.{OfName, change_on}

-- the view of the application has nothing of the file: no open file and no temporary of it names it,
-- and it stands at no path of which the view tells
pub record IsUnseen (app : List ℕ) (s : State) (t : OwnTemp) : Type 0 where
  pub hidden : file_named s.files t.temp.file ≡ None
  pub unheld : holds_name (view s app) t.temp.file ≡ false
  pub unseen : has_file (view s app) t.temp.file ≡ false

-- each temporary of a connection that isn't the application's
abbrev pub AreUnseenOn : List ℕ → State → Connection → Type 0
AreUnseenOn app s c = is_app app c.who ≡ false → All (IsUnseen app s) c.temps

-- No file is a temporary of two connections, and only the connection that made a temporary has it
-- open; so another application has none of it. And what a request changes of a file that the view
-- doesn't have is not told.
pub record TemporariesAreUntold : Type 0 where
  pub unseen :
      (app : List ℕ) (tree : Held) (o : OpeningState) (h : List Entry) →
      Legal (opened_over (Some tree) o) h →
      All (AreUnseenOn app (run (opened_over (Some tree) o) h))
      (run (opened_over (Some tree) o) h).connections
  pub untold :
      (app : List ℕ) (s : State) (seat : ℕ) (r : NodeRequest) (given : Given)
      (name : FileName) → Valid s → Lawful s (asks seat (Request.Node r) given) →
      change_on s r (mount_of (connection_of s.connections seat)) ≡ Some (OfName name) →
      has_file (view s app) name ≡ false →
      touch app s (asks seat (Request.Node r) given) ≡ []
