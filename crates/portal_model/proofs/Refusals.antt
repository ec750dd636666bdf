-- A refused entry, of whatever kind, changes connections alone.
use Rattle.std.proofs.Common.{◌≡◌, ℕ, Option, Some, None, refl, sym, subst}
use Rattle.portal_model.specs.declared.entry.Given.{Given}
use Rattle.portal_model.specs.declared.reply.Answer.{Answer}
use Rattle.portal_model.specs.declared.reply.Code.{Code}
use Rattle.portal_model.specs.declared.request.NodeRequest.{NodeRequest}
use Rattle.portal_model.specs.declared.request.Request.{Request}
use Rattle.portal_model.specs.declared.state.Connection.{Connection}
use Rattle.portal_model.specs.DocumentLaws.{RefusedEntriesKeep}
use Rattle.portal_model.specs.Leave.{handles_left, leave_answer, left}
use Rattle.portal_model.specs.Node.{node_given, settled_on_node, walk_on_node}
use Rattle.portal_model.specs.NodeVerdict.{NodeVerdict, Errs, Yields}
use Rattle.portal_model.specs.State.{State, connection_of}
use Rattle.portal_model.specs.Step.{all_told, bus_of, bus_step, collect_step, mount_of, node_step, request_step}
use Rattle.portal_model.proofs.AllowedLaws.{refused-lists}

abbrev Keeps : State → State → Type 0
Keeps s t = t ≡ record s { connections = t.connections }

collect_keeps : (s : State) (o : Option Connection) → Keeps s (collect_step s o).0
collect_keeps s None = refl
collect_keeps s (Some c) = refl

-- what is done on a node is answered by no refusal
pub settled-keeps : (s : State) (c : Connection) (v : Option NodeVerdict) (code : Code) → (settled_on_node s c v).1 ≡ Answer.Refused code → (settled_on_node s c v).0 ≡ s
settled-keeps s c None code e = refl
settled-keeps s c (Some (Errs errno)) code e = refl
settled-keeps s c (Some (Yields d)) code e = cc

node_keeps : (s : State) (r : NodeRequest) (given : Given) (o : Option Connection) (code : Code) → (node_step s r given o).1.answer ≡ Answer.Refused code → Keeps s (node_step s r given o).0
node_keeps s r given None code e = refl
node_keeps s r given (Some c) code e =
    let t = all_told c.seat s in
    subst (Keeps s) (sym (settled-keeps t c (node_given (walk_on_node t c r) given) code e)) refl

left_keeps : (s : State) (seat : ℕ) (o : Option Connection) (code : Code) → leave_answer o ≡ Answer.Refused code → Keeps s (record s { connections = left seat s.connections o; handles = handles_left seat s.handles o })
left_keeps s seat None code e = refl
left_keeps s seat (Some c) code e = cc

bus_keeps : (s : State) (request : Request) (given : Given) (o : Option Connection) (code : Code) → (bus_step s request given o).1.answer ≡ Answer.Refused code → Keeps s (bus_step s request given o).0
bus_keeps s request given None code e = refl
bus_keeps s request given (Some c) code e = refused-lists (all_told c.seat s) c request given code e

step_keeps : (s : State) (seat : ℕ) (request : Request) (given : Given) (code : Code) → (request_step s seat request given).1.answer ≡ Answer.Refused code → Keeps s (request_step s seat request given).0
step_keeps s seat (Request.Enter who kind) given code e = refl
step_keeps s seat Request.Leave given code e = left_keeps s seat (connection_of s.connections seat) code e
step_keeps s seat Request.Collect given code e = collect_keeps s (bus_of (connection_of s.connections seat))
step_keeps s seat (Request.Node r) given code e = node_keeps s r given (mount_of (connection_of s.connections seat)) code e
step_keeps s seat (Request.Present path) given code e = bus_keeps s (Request.Present path) given (bus_of (connection_of s.connections seat)) code e
step_keeps s seat (Request.Add a) given code e = bus_keeps s (Request.Add a) given (bus_of (connection_of s.connections seat)) code e
step_keeps s seat (Request.Grant call) given code e = bus_keeps s (Request.Grant call) given (bus_of (connection_of s.connections seat)) code e
step_keeps s seat (Request.Revoke call) given code e = bus_keeps s (Request.Revoke call) given (bus_of (connection_of s.connections seat)) code e
step_keeps s seat (Request.DeleteDocument doc) given code e = bus_keeps s (Request.DeleteDocument doc) given (bus_of (connection_of s.connections seat)) code e
step_keeps s seat (Request.LookupDocument path) given code e = bus_keeps s (Request.LookupDocument path) given (bus_of (connection_of s.connections seat)) code e
step_keeps s seat (Request.Info doc) given code e = bus_keeps s (Request.Info doc) given (bus_of (connection_of s.connections seat)) code e
step_keeps s seat (Request.ListDocuments app) given code e = bus_keeps s (Request.ListDocuments app) given (bus_of (connection_of s.connections seat)) code e
step_keeps s seat (Request.Store call) given code e = bus_keeps s (Request.Store call) given (bus_of (connection_of s.connections seat)) code e

pub refused-entries-keep : RefusedEntriesKeep
refused-entries-keep s e code h = step_keeps s e.seat e.request e.given code h
