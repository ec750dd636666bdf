-- The calls of the tree that an entry made, told by the walk of its request: of each its kind, and
-- whether it failed.
use Rattle.std.specs.Prelude.{ℕ, List, [], Option, Some, None}
use Rattle.host_tree.specs.declared.tree.TreeCall.{TreeCall}
use Rattle.node_serving.specs.Seats.{seat_calls}
use Rattle.portal_model.specs.declared.entry.Entry.{Entry}
use Rattle.portal_model.specs.declared.entry.Given.{Given}
use Rattle.portal_model.specs.declared.request.Request.{Request}
use Rattle.portal_model.specs.declared.state.Connection.{Connection}
use Rattle.portal_model.specs.Bus.{bus_walk, is_tree}
use Rattle.portal_model.specs.State.{State, connection_of}
use Rattle.portal_model.specs.Step.{all_told, bus_of}
use Rattle.portal_model.specs.Verdict.{Verdict}
use Rattle.node_looks.specs.TreeCalls.{Call, calls_by}
pub use Rattle.node_looks.specs.TreeCalls.{Calling, CallsAsTold, WasCalled, WasCalledUpTo}

-- a request on documents makes no call but looks
abbrev pub only_looks : Verdict → TreeCall
only_looks verdict = TreeCall.Look

-- those of a request on documents, in the state in which the connection was told what it waited for
abbrev pub bus_calls : State → Request → Given → Option Connection → List Call
bus_calls s request given None = []
bus_calls s request given (Some c) =
    calls_by only_looks (bus_walk (all_told c.seat s) c request given.numbers) given.looks
    (is_tree given.fault)

abbrev pub document_calls : State → ℕ → Request → Given → List Call
document_calls s seat request given =
    bus_calls s request given (bus_of (connection_of s.connections seat))

abbrev pub request_calls : State → ℕ → Request → Given → List Call
request_calls s seat (Request.Enter who kind) given = []
request_calls s seat Request.Leave given = []
request_calls s seat Request.Collect given = []
request_calls s seat (Request.Node r) given = seat_calls s seat r given
request_calls s seat request given = document_calls s seat request given

abbrev pub entry_calls : State → Entry → List Call
entry_calls s e = request_calls s e.seat e.request e.given
