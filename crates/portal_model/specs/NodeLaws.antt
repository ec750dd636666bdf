-- Laws of requests on nodes, which the public functions of src/node_laws.rt state.
use Rattle.std.specs.Prelude.{◌≡◌, [], true, false, Option, Some}
use Rattle.portal_model.specs.declared.entry.Fault.{Fault}
use Rattle.portal_model.specs.declared.entry.Given.{Given}
use Rattle.portal_model.specs.declared.reply.Answer.{Answer}
use Rattle.portal_model.specs.declared.reply.Code.{Code}
use Rattle.portal_model.specs.declared.request.NodeOp.{NodeOp}
use Rattle.portal_model.specs.declared.request.NodeRequest.{NodeRequest}
use Rattle.portal_model.specs.declared.request.Request.{Request}
use Rattle.portal_model.specs.declared.state.Connection.{Connection}
use Rattle.portal_model.specs.Allowed.{is_refusal, may_ask_node, within}
use Rattle.portal_model.specs.Node.{node_answer}
use Rattle.portal_model.specs.NodeOutside.{LawfulNode}
use Rattle.portal_model.specs.State.{State, connection_of, is_mount}
use Rattle.portal_model.specs.Step.{bus_step}
use Rattle.portal_model.specs.Valid.{Valid}

-- a refusal on a node changes nothing at all
abbrev pub NodeRefusalsKeep : Type 0
NodeRefusalsKeep = (s : State) (c : Connection) (r : NodeRequest) (given : Given) (code : Code) →
    (node_answer s c r given).1 ≡ Answer.Refused code → (node_answer s c r given).0 ≡ s

-- a request on a node, of an open mount, leaves a valid state valid where what was given is lawful
abbrev pub NodesStayValid : Type 0
NodesStayValid = (s : State) (c : Connection) (r : NodeRequest) (given : Given) →
    connection_of s.connections c.seat ≡ Some c → is_mount c.kind ≡ true → Valid s →
    LawfulNode s c r given → Valid (node_answer s c r given).0

-- A CREATE makes what isn't there, which only a tree that tells shows ahead. Each other request
-- may be over any tree: of one that doesn't tell, the state has no files.
abbrev pub ToldForNode : State → NodeOp → Type 0
ToldForNode s (NodeOp.Create name flags) = s.told ≡ true
ToldForNode s op = s.told ≡ false → (s.files ≡ []) × (s.hidden ≡ [])

-- what may be asked of a node is done, where no device fails and no limit is met
abbrev pub AllowedOnNodesIsDone : Type 0
AllowedOnNodesIsDone = (s : State) (c : Connection) (r : NodeRequest) (given : Given) →
    ToldForNode s r.op → may_ask_node s c r ≡ true → within s c r ≡ true →
    LawfulNode s c r given → given.fault ≡ Fault.None →
    is_refusal (node_answer s c r given).1 ≡ false

-- what is asked on a bus, whatever is revoked or deleted by it, leaves each open handle
abbrev pub HandlesStayOnBuses : Type 0
HandlesStayOnBuses = (s : State) (request : Request) (given : Given) (o : Option Connection) →
    (bus_step s request given o).0.handles ≡ s.handles
