-- The entry of a request for which only the tree is asked, and the answer to a Collect.
use Rattle.std.specs.Prelude.{ℕ, List, [], Option, Some, None, false}
use Rattle.node_looks.specs.Served.{given_to}
use Rattle.node_looks.specs.declared.served.NodeDone.{NodeDone}
use Rattle.portal_base.specs.declared.files.Look.{Look}
use Rattle.portal_model.specs.declared.entry.Entry.{Entry}
use Rattle.portal_model.specs.declared.entry.Fault.{Fault}
use Rattle.portal_model.specs.declared.entry.Given.{Given}
use Rattle.portal_model.specs.declared.reply.Answer.{Answer}
use Rattle.portal_model.specs.declared.reply.Code.TheVariants as Code
use Rattle.portal_model.specs.declared.request.NodeRequest.{NodeRequest}
use Rattle.portal_model.specs.declared.request.Request.{Request}
use Rattle.portal_model.specs.declared.state.Connection.{Connection}

-- what the outside gives where only the tree is asked
abbrev pub looked : List Look → Fault → Given
looked looks fault = record {
  now = None;
  words = [];
  numbers = [];
  looks = looks;
  listed = None;
  generation = None;
  full = false;
  fault = fault;
}

-- an entry to which the outside gave these looks alone, or with this fault
abbrev pub entry_of : ℕ → Request → List Look → Fault → Entry
entry_of seat request looks fault =
    record { seat = seat; request = request; given = looked looks fault }

-- the entry of a request on a node that was served
abbrev pub node_entry : ℕ → NodeRequest → NodeDone → Entry
node_entry seat r done =
    record { seat = seat; request = Request.Node r; given = given_to done }

-- a Collect is of a bus alone
abbrev pub collect_answer : Option Connection → Answer
collect_answer None = Answer.Refused Code.NotHere
collect_answer (Some c) = Answer.Done
