-- Histories: lists of entries from a state.
use Rattle.std.specs.Prelude.{ℕ, ◌+◌, ◌*◌, ◌-◌, ◌^◌, ◌==◌, min, List, [], ◌∷◌, ◌++◌, length, Bool, false, Option, Some, None, cond}
use Rattle.std.specs.List.{filter, sum_by}
use Rattle.dbus_types.specs.declared.types.Value.{Value}
use Rattle.portal_base.specs.declared.who.Who.{Who}
use Rattle.portal_model.specs.declared.entry.Entry.{Entry}
use Rattle.portal_model.specs.declared.reply.Reply.{Reply}
use Rattle.portal_model.specs.declared.request.AddRequest.{AddRequest}
use Rattle.portal_model.specs.declared.request.NodeOp.{NodeOp}
use Rattle.portal_model.specs.declared.request.Request.{Request}
use Rattle.portal_model.specs.declared.request.RightsCall.{RightsCall}
use Rattle.portal_model.specs.declared.state.Connection.{Connection}
use Rattle.portal_model.specs.declared.store.StoreCall.{StoreCall}
use Rattle.portal_model.specs.Data.{data_bytes}
use Rattle.portal_model.specs.Lawful.{Lawful}
use Rattle.portal_model.specs.State.{State, connection_of, is_app}
use Rattle.portal_model.specs.StoreRequest.{data_of, texts_of}
use Rattle.portal_model.specs.Step.{after, reply_at}
use Rattle.portal_model.specs.Valid.{Valid}

-- the state after all entries
abbrev pub run : State → List Entry → State
run s [] = s
run s (e ∷ es) = run (after s e) es

-- each entry is lawful at its place
abbrev pub EachLawful : State → List Entry → Type 0
EachLawful s [] = Unit {0}
EachLawful s (e ∷ es) = Lawful s e × EachLawful (after s e) es

-- a history that a portal may have
pub record Legal (s : State) (h : List Entry) : Type 0 where
  pub opening : Valid s
  pub lawful : EachLawful s h

-- ---- cost, in bytes

-- a name and a content count their bytes, a forgotten node 16
abbrev pub node_bytes : NodeOp → ℕ
node_bytes (NodeOp.Lookup name) = length name
node_bytes (NodeOp.BatchForget nodes) = 16 * length nodes
node_bytes (NodeOp.Create name flags) = length name
node_bytes (NodeOp.Write fh offset content) = length content
node_bytes (NodeOp.Forget count) = 0
node_bytes (NodeOp.GetAttr flags fh) = 0
node_bytes (NodeOp.SetAttr valid fh size) = 0
node_bytes (NodeOp.Open flags) = 0
node_bytes (NodeOp.Read fh offset size) = 0
node_bytes (NodeOp.Flush fh) = 0
node_bytes (NodeOp.Fsync fh) = 0
node_bytes (NodeOp.Release fh) = 0
node_bytes NodeOp.OpenDir = 0
node_bytes (NodeOp.ReadDir fh offset size) = 0
node_bytes (NodeOp.ReleaseDir fh) = 0
node_bytes (NodeOp.Access mask) = 0
node_bytes (NodeOp.Rename new_parent flags old_name new_name) = length old_name + length new_name
node_bytes (NodeOp.Unlink name) = length name

abbrev pub who_bytes : Who → ℕ
who_bytes Who.Host = 0
who_bytes (Who.App name) = length name

abbrev pub texts_bytes : List (List ℕ) → ℕ
texts_bytes texts = sum_by (λ t. length t) texts

-- a handle counts as 4 bytes
abbrev pub add_bytes : AddRequest → ℕ
add_bytes a = 4 * length a.handles + (length a.name + (length a.app + texts_bytes a.names))

abbrev pub rights_call_bytes : RightsCall → ℕ
rights_call_bytes call = length call.doc + (length call.app + texts_bytes call.names)

abbrev pub bytes_of_data : Option Value → ℕ
bytes_of_data None = 0
bytes_of_data (Some datum) = data_bytes datum

-- the data counts as it is spelled, and not at all where it breaks a rule
abbrev pub store_bytes : StoreCall → ℕ
store_bytes call = texts_bytes (texts_of call) + bytes_of_data (data_of call)

-- what a request that carries so many bytes costs: at most the greatest number that is counted
abbrev pub cost_of_bytes : ℕ → ℕ
cost_of_bytes count = min (128 + count) (2 ^ 64 - 1)

-- what a request costs the history. A Leave is free, so that it is never too much
abbrev pub cost_of : Request → ℕ
cost_of (Request.Enter who kind) = cost_of_bytes (who_bytes who)
cost_of Request.Leave = 0
cost_of Request.Collect = cost_of_bytes 0
cost_of (Request.Present path) = cost_of_bytes (length path)
cost_of (Request.Add a) = cost_of_bytes (add_bytes a)
cost_of (Request.Grant call) = cost_of_bytes (rights_call_bytes call)
cost_of (Request.Revoke call) = cost_of_bytes (rights_call_bytes call)
cost_of (Request.DeleteDocument doc) = cost_of_bytes (length doc)
cost_of (Request.LookupDocument path) = cost_of_bytes (length path)
cost_of (Request.Info doc) = cost_of_bytes (length doc)
cost_of (Request.ListDocuments app) = cost_of_bytes (length app)
cost_of (Request.Store call) = cost_of_bytes (store_bytes call)
cost_of (Request.Node r) = cost_of_bytes (node_bytes r.op)

abbrev pub cost : List Entry → ℕ
cost h = sum_by (λ e. cost_of e.request) h

-- ---- who made an entry

-- the entries of a seat, in order
abbrev pub of_seat : ℕ → List Entry → List Entry
of_seat seat h = filter (λ e. e.seat == seat) h

-- whom the seat's open connection is bound to; else whom an Enter names; else nobody
abbrev pub maker : Option Connection → Request → Option Who
maker (Some c) request = Some c.who
maker None (Request.Enter who kind) = Some who
maker None request = None

abbrev pub is_by : List ℕ → Option Who → Bool
is_by app None = false
is_by app (Some who) = is_app app who

abbrev pub made_by : List ℕ → Option Connection → Request → Bool
made_by app c request = is_by app (maker c request)

-- the application makes the entry
abbrev pub makes : List ℕ → State → Entry → Bool
makes app s e = made_by app (connection_of s.connections e.seat) e.request

-- the replies to the entries that the application makes
abbrev pub replies : List ℕ → State → List Entry → List Reply
replies app s [] = []
replies app s (e ∷ es) = cond (makes app s e) (reply_at s e ∷ []) [] ++ replies app (after s e) es
