-- A request of a bus that was served.
use Rattle.std.specs.Prelude.{◌≡◌, [], Bool, None}
use Rattle.portal_model.specs.declared.entry.Fault.{Fault}
use Rattle.portal_model.specs.declared.entry.Given.{Given}
use Rattle.portal_model.specs.declared.reply.Answer.{Answer}
use Rattle.portal_model.specs.declared.request.Request.{Request}
use Rattle.portal_model.specs.declared.state.Connection.{Connection}
use Rattle.portal_model.specs.Bus.{bus_answer}
use Rattle.portal_model.specs.Outside.{LawfulBus}
use Rattle.portal_model.specs.State.{State}

-- What was given is lawful, and the sequential portal makes of it this state and this answer.
pub record Serves (s : State) (c : Connection) (request : Request) (given : Given)
    (after : State) (answer : Answer) : Type 0 where
  pub lawful : LawfulBus s c request given
  pub step : bus_answer s c request given ≡ (after, answer)

-- no word was drawn and the tree wasn't asked
abbrev pub given_with : Bool → Fault → Given
given_with full fault = record {
  now = None;
  words = [];
  numbers = [];
  looks = [];
  listed = None;
  generation = None;
  full = full;
  fault = fault;
}
