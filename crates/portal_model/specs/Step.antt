-- One step of the sequential portal: a request of a seat, with what the outside gave it.
use Rattle.std.specs.Prelude.{ℕ, ◌==◌, List, [], Option, Some, None, cond, map}
use Rattle.portal_base.specs.declared.files.Look.{Look}
use Rattle.portal_model.specs.declared.entry.Entry.{Entry}
use Rattle.portal_model.specs.declared.entry.Given.{Given}
use Rattle.portal_model.specs.declared.reply.Answer.{Answer}
use Rattle.portal_model.specs.declared.reply.Change.{Change}
use Rattle.portal_model.specs.declared.reply.Code.TheVariants as Code
use Rattle.portal_model.specs.declared.reply.Reply.{Reply}
use Rattle.portal_model.specs.declared.request.NodeRequest.{NodeRequest}
use Rattle.portal_model.specs.declared.request.Request.{Request}
use Rattle.portal_model.specs.declared.state.Connection.{Connection}
use Rattle.portal_model.specs.Bus.{bus_answer, bus_walk}
use Rattle.portal_model.specs.Collect.{collect}
use Rattle.portal_model.specs.Enter.{enter}
use Rattle.portal_model.specs.Leave.{leave}
use Rattle.portal_model.specs.Node.{node_answer, walk_on_node}
use Rattle.portal_model.specs.State.{State, connection_of, held_in}
use Rattle.portal_model.specs.Walk.{looks_shown}
pub use Rattle.portal_model.specs.State.{is_mount}

-- ---- the connection that asks

-- the connection, where it is a mount
abbrev pub mount_of : Option Connection → Option Connection
mount_of None = None
mount_of (Some c) = cond (is_mount c.kind) (Some c) None

-- the connection, where it is a bus
abbrev pub bus_of : Option Connection → Option Connection
bus_of None = None
bus_of (Some c) = cond (is_mount c.kind) None (Some c)

-- what the connection was not told yet is told now
abbrev pub told_of : ℕ → Connection → Connection
told_of seat c = cond (c.seat == seat) (record c { unsent = [] }) c

abbrev pub all_told : ℕ → State → State
all_told seat s = record s { connections = map (told_of seat) s.connections }

abbrev pub reply_with : List Change → Answer → Reply
reply_with signals answer = record { signals = signals; answer = answer }

abbrev pub with_signals : {X : Type 0} → List Change → X × Answer → X × Reply
with_signals signals done = (done.0, reply_with signals done.1)

-- the seat has no open connection of the request's kind: nothing changes
abbrev pub not_here : {X : Type 0} → X → X × Reply
not_here x = (x, reply_with [] (Answer.Refused Code.NotHere))

-- Served on an open connection of the request's kind: what the connection was not told yet rides
-- ahead of the answer. Where the seat has none, nothing changes.
abbrev pub on_connection :
    State → (State → Connection → State × Answer) → Option Connection → State × Reply
on_connection s answered None = not_here s
on_connection s answered (Some c) = with_signals c.unsent (answered (all_told c.seat s) c)

-- ---- the step

abbrev pub node_step : State → NodeRequest → Given → Option Connection → State × Reply
node_step s r given o = on_connection s (λ s c. node_answer s c r given) o

abbrev pub collect_step : State → Option Connection → State × Reply
collect_step s o = on_connection s (λ s c. collect s) o

abbrev pub bus_step : State → Request → Given → Option Connection → State × Reply
bus_step s request given o = on_connection s (λ s c. bus_answer s c request given) o

-- an Enter and a Leave tell no change
abbrev pub request_step : State → ℕ → Request → Given → State × Reply
request_step s seat (Request.Enter who kind) given = with_signals [] (enter s seat who kind)
request_step s seat Request.Leave given = with_signals [] (leave s seat)
request_step s seat Request.Collect given =
    collect_step s (bus_of (connection_of s.connections seat))
request_step s seat (Request.Node r) given =
    node_step s r given (mount_of (connection_of s.connections seat))
request_step s seat (Request.Present path) given =
    bus_step s (Request.Present path) given (bus_of (connection_of s.connections seat))
request_step s seat (Request.Add a) given =
    bus_step s (Request.Add a) given (bus_of (connection_of s.connections seat))
request_step s seat (Request.Grant call) given =
    bus_step s (Request.Grant call) given (bus_of (connection_of s.connections seat))
request_step s seat (Request.Revoke call) given =
    bus_step s (Request.Revoke call) given (bus_of (connection_of s.connections seat))
request_step s seat (Request.DeleteDocument doc) given =
    bus_step s (Request.DeleteDocument doc) given (bus_of (connection_of s.connections seat))
request_step s seat (Request.LookupDocument path) given =
    bus_step s (Request.LookupDocument path) given (bus_of (connection_of s.connections seat))
request_step s seat (Request.Info doc) given =
    bus_step s (Request.Info doc) given (bus_of (connection_of s.connections seat))
request_step s seat (Request.ListDocuments app) given =
    bus_step s (Request.ListDocuments app) given (bus_of (connection_of s.connections seat))
request_step s seat (Request.Store call) given =
    bus_step s (Request.Store call) given (bus_of (connection_of s.connections seat))

-- the state after an entry, and the reply to it
abbrev pub step : State → Entry → State × Reply
step s e = request_step s e.seat e.request e.given

abbrev pub after : State → Entry → State
after s e = (step s e).0

abbrev pub reply_at : State → Entry → Reply
reply_at s e = (step s e).1

-- ---- looks at the tree

-- the looks that an entry takes over a tree that tells its files, where none fails

abbrev pub node_looks : State → NodeRequest → Option Connection → List Look
node_looks s r None = []
node_looks s r (Some c) = looks_shown (held_in s) (walk_on_node (all_told c.seat s) c r)

-- The looks of the walk: an Add's, and none of another request of a bus. The numbers that new
-- documents get don't bear on them.
abbrev pub bus_looks : State → Request → Option Connection → List Look
bus_looks s request None = []
bus_looks s request (Some c) =
    looks_shown (held_in s) (bus_walk (all_told c.seat s) c request [])

abbrev pub looks_taken : State → ℕ → Request → List Look
looks_taken s seat (Request.Enter who kind) = []
looks_taken s seat Request.Leave = []
looks_taken s seat Request.Collect = []
looks_taken s seat (Request.Node r) = node_looks s r (mount_of (connection_of s.connections seat))
looks_taken s seat (Request.Present path) =
    bus_looks s (Request.Present path) (bus_of (connection_of s.connections seat))
looks_taken s seat (Request.Add a) =
    bus_looks s (Request.Add a) (bus_of (connection_of s.connections seat))
looks_taken s seat (Request.Grant call) =
    bus_looks s (Request.Grant call) (bus_of (connection_of s.connections seat))
looks_taken s seat (Request.Revoke call) =
    bus_looks s (Request.Revoke call) (bus_of (connection_of s.connections seat))
looks_taken s seat (Request.DeleteDocument doc) =
    bus_looks s (Request.DeleteDocument doc) (bus_of (connection_of s.connections seat))
looks_taken s seat (Request.LookupDocument path) =
    bus_looks s (Request.LookupDocument path) (bus_of (connection_of s.connections seat))
looks_taken s seat (Request.Info doc) =
    bus_looks s (Request.Info doc) (bus_of (connection_of s.connections seat))
looks_taken s seat (Request.ListDocuments app) =
    bus_looks s (Request.ListDocuments app) (bus_of (connection_of s.connections seat))
looks_taken s seat (Request.Store call) =
    bus_looks s (Request.Store call) (bus_of (connection_of s.connections seat))
