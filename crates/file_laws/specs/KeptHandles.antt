-- Open handles over a history (include/uapi/linux/fuse.h): what a handle was when it was opened it
-- stays until its own connection releases it or ends, whatever is revoked or deleted; and what it
-- may do depends on no right, where its document isn't strict.
use Rattle.std.specs.Prelude.{◌≡◌, ℕ, ◌==◌, List, [], ◌∷◌, ◌++◌, Bool, true, false, ◌&&◌, ◌||◌, Option, Some, None, is_some}
use Rattle.portal_model.specs.declared.entry.Entry.{Entry}
use Rattle.portal_model.specs.declared.entry.Given.{Given}
use Rattle.portal_model.specs.declared.handle.Handle.{Handle}
use Rattle.portal_model.specs.declared.reply.Answer.{Answer}
use Rattle.portal_model.specs.declared.reply.NodeAnswer.{NodeAnswer}
use Rattle.portal_model.specs.declared.reply.Reply.{Reply}
use Rattle.portal_model.specs.declared.request.NodeOp.{NodeOp}
use Rattle.portal_model.specs.declared.request.NodeRequest.{NodeRequest}
use Rattle.portal_model.specs.declared.request.Request.{Request}
use Rattle.portal_model.specs.declared.state.Connection.{Connection}
use Rattle.portal_model.specs.GetAttr.{names_handle}
use Rattle.portal_model.specs.History.{Legal, run}
use Rattle.portal_model.specs.Node.{NodeFacts, facts_of, node_given, node_walk, settled_on_node}
use Rattle.portal_model.specs.Reach.{Reaching}
use Rattle.portal_model.specs.State.{State, connection_of, handle_of}
use Rattle.portal_model.specs.Step.{after, mount_of, on_connection, reply_at, step}
use Rattle.app_world.specs.Touched.{is_done}

-- ---- the entry that opens a handle

-- the number of the new handle, which FUSE_OPEN, FUSE_OPENDIR and FUSE_CREATE are answered
abbrev pub number_told : NodeAnswer → Option ℕ
number_told (NodeAnswer.Opened fh) = Some fh
number_told (NodeAnswer.Created attr fh) = Some fh
number_told answer = None

abbrev pub number_answered : Request → Answer → Option ℕ
number_answered (Request.Node r) (Answer.Node answer) = number_told answer
number_answered request answer = None

-- ---- the entries that end a handle

-- FUSE_RELEASE and FUSE_RELEASEDIR
abbrev pub releases : ℕ → NodeOp → Bool
releases fh (NodeOp.Release number) = number == fh
releases fh (NodeOp.ReleaseDir number) = number == fh
releases fh op = false

-- a release of it, or the end of the connection
abbrev pub ends : ℕ → Request → Bool
ends fh Request.Leave = true
ends fh (Request.Node r) = releases fh r.op
ends fh request = false

-- the seat's own entry, which is done
abbrev pub ends_at : ℕ → ℕ → State → Entry → Bool
ends_at seat fh s e = e.seat == seat && (ends fh e.request && is_done (reply_at s e).answer)

abbrev pub is_ended_in : ℕ → ℕ → State → List Entry → Bool
is_ended_in seat fh s [] = false
is_ended_in seat fh s (e ∷ es) = ends_at seat fh s e || is_ended_in seat fh (after s e) es

-- ---- the entries that go by a handle

-- FUSE_READ, FUSE_WRITE, FUSE_FLUSH, FUSE_FSYNC, and FUSE_GETATTR with FUSE_GETATTR_FH
abbrev pub goes_by : ℕ → NodeOp → Bool
goes_by fh (NodeOp.Read number offset size) = number == fh
goes_by fh (NodeOp.Write number offset content) = number == fh
goes_by fh (NodeOp.Flush number) = number == fh
goes_by fh (NodeOp.Fsync number) = number == fh
goes_by fh (NodeOp.GetAttr flags number) = names_handle flags && number == fh
goes_by fh op = false

-- the same facts, where this is the open handle that the request names
abbrev pub with_handle : Handle → NodeFacts → NodeFacts
with_handle handle f = record f { handle = λ number. Some handle }

-- the step of a request on a node, of this open mount, that goes by this handle
abbrev pub step_by : Handle → State → NodeRequest → Given → Option Connection → State × Reply
step_by handle s r given o =
    on_connection s (λ s c. settled_on_node s c
    (node_given (node_walk (with_handle handle (facts_of s c r.node)) r r.op) given)) o

-- ---- what a handle may do

abbrev pub is_of_strict : Handle → Bool
is_of_strict (Handle.File name node document strict read write) = strict
is_of_strict (Handle.Folder node names) = false

-- the same step, where the rights are these
abbrev pub step_by_rights :
    Handle → Reaching → State → NodeRequest → Given → Option Connection → State × Reply
step_by_rights handle reach s r given o =
    on_connection s (λ s c. settled_on_node s c
    (node_given (node_walk (record (with_handle handle (facts_of s c r.node)) { reach = reach })
    r r.op) given)) o

-- ---- the law

-- The handle that was opened, by a number that no open handle of the seat had. Now the seat has it
-- still, on its open mount, and the step of the later entry goes by it; where its document isn't
-- strict, whatever the rights are.
pub record KeepsHandle (seat fh : ℕ) (ahead opened now : State) (later : Entry)
    (r : NodeRequest) : Type 0 where
  pub handle : Handle
  pub new : handle_of ahead.handles seat fh ≡ None
  pub made : handle_of opened.handles seat fh ≡ Some handle
  pub kept : handle_of now.handles seat fh ≡ Some handle
  pub mounted : is_some (mount_of (connection_of now.connections seat)) ≡ true
  pub told : step now later
      ≡ step_by handle now r later.given (mount_of (connection_of now.connections seat))
  pub plain :
      is_of_strict handle ≡ false → (reach : Reaching) →
      step now later
      ≡ step_by_rights handle reach now r later.given
      (mount_of (connection_of now.connections seat))

-- In a legal history an entry is answered the number of a new handle, and a later one of the seat
-- goes by that number. Then it goes by the handle that the first opened, as long as no entry
-- between released it or ended the connection.
abbrev pub OlderHandlesKeepTheirRights : Type 0
OlderHandlesKeepTheirRights =
    (s : State) (before : List Entry) (opening : Entry) (between : List Entry) (later : Entry)
    (rest : List Entry) (fh : ℕ) (r : NodeRequest) →
    Legal s (before ++ opening ∷ (between ++ later ∷ rest)) →
    number_answered opening.request (reply_at (run s before) opening).answer ≡ Some fh →
    later.seat ≡ opening.seat → later.request ≡ Request.Node r → goes_by fh r.op ≡ true →
    is_ended_in opening.seat fh (after (run s before) opening) between ≡ false →
    KeepsHandle opening.seat fh (run s before) (after (run s before) opening)
    (run (after (run s before) opening) between) later r
