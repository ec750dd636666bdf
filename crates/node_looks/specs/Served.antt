-- A request on a node that was served.
use Rattle.std.specs.Prelude.{◌≡◌, ℕ, [], false, Option}
use Rattle.file_generations.specs.Generations.{Held}
use Rattle.portal_base.specs.declared.who.Who.{Who}
use Rattle.host_tree.specs.Trees.{TreeIs}
use Rattle.portal_model.specs.declared.entry.Given.{Given}
use Rattle.portal_model.specs.declared.naming.Naming.{Naming}
use Rattle.portal_model.specs.declared.reply.Answer.{Answer}
use Rattle.portal_model.specs.declared.request.NodeRequest.{NodeRequest}
use Rattle.portal_model.specs.declared.state.Connection.{Connection}
use Rattle.portal_model.specs.declared.temporary.Temp.{Temp}
use Rattle.portal_model.specs.Bus.{is_tree}
use Rattle.portal_model.specs.Node.{node_answer, walk_on_node}
use Rattle.portal_model.specs.NodeOutside.{LawfulNode}
use Rattle.portal_model.specs.Outside.{files_told}
use Rattle.portal_model.specs.Place.{naming_on, temp_on}
use Rattle.portal_model.specs.State.{State}
use Rattle.portal_model.specs.Valid.{Valid}
use Rattle.app_view.specs.Books.{Lends}
use Rattle.app_view.specs.declared.book.ViewBook.{ViewBook}
use Rattle.node_looks.specs.TreeCalls.{Calling, calls_of}
use Rattle.node_looks.specs.declared.served.NodeDone.{NodeDone}

-- ---- the state that a request is served in

-- A valid state with the lists of the book; a connection of this caller asks, and the tree tells
-- what the state has.
pub record IsAsked (s : State) (c : Connection) (book : ViewBook) (who : Who)
    (told : Option Held) : Type 0 where
  pub valid : Valid s
  pub lists : Lends book s
  pub caller : c.who ≡ who
  pub files : files_told s ≡ told

-- ---- what is served

-- what the outside gave: no word is drawn, no number is given, and no limit of documents is met
abbrev pub given_to : NodeDone → Given
given_to done = record {
  now = done.now;
  words = [];
  numbers = [];
  looks = done.looks;
  listed = done.listed;
  generation = done.generation;
  full = false;
  fault = done.fault;
}

-- What was given is lawful, and the sequential portal makes of it this state and this answer.
pub record Serves (s : State) (c : Connection) (r : NodeRequest) (given : Given) (after : State)
    (answer : Answer) : Type 0 where
  pub lawful : LawfulNode s c r given
  pub step : node_answer s c r given ≡ (after, answer)

-- It is served so, changes nothing, and the tree got just the calls of the request.
pub record Told (s : State) (c : Connection) (r : NodeRequest) (old : TreeIs) (done : NodeDone)
    (new : TreeIs) : Type 0 where
  pub serves : Serves s c r (given_to done) s done.answer
  pub calls :
      Calling old (calls_of (walk_on_node s c r) done.looks (is_tree done.fault)) old.told new

-- a connection has these by the number in a node: a name below an exported folder, a temporary
pub record HasAt (node : ℕ) (naming : Option Naming) (temp : Option Temp) (c : Connection)
    : Type 0 where
  pub naming_is : naming_on c node ≡ naming
  pub temp_is : temp_on c node ≡ temp

-- a request that changes nothing, in every state in which it may be asked, by a connection of
-- which this is so
abbrev pub TellsWhere : (Connection → Type 0) → ViewBook → Who → NodeRequest → TreeIs → NodeDone
    → TreeIs → Type 0
TellsWhere Has book who r old done new = (s : State) (c : Connection) →
    IsAsked s c book who old.told → Has c → Told s c r old done new

-- by one that has these by the number in the node
abbrev pub Tells : Option Naming → Option Temp → ViewBook → Who → NodeRequest → TreeIs → NodeDone
    → TreeIs → Type 0
Tells naming temp book who r old done new =
    TellsWhere (HasAt r.node naming temp) book who r old done new
