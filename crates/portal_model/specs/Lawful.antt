-- What the outside may have given to an entry, by the kind of its request.
use Rattle.std.specs.Prelude.{◌≡◌, ℕ, [], true, false, Option, Some, None}
use Rattle.portal_base.specs.declared.who.Who.{Who}
use Rattle.portal_model.specs.declared.entry.Entry.{Entry}
use Rattle.portal_model.specs.declared.entry.Fault.{Fault}
use Rattle.portal_model.specs.declared.entry.Given.{Given}
use Rattle.portal_model.specs.declared.request.NodeRequest.{NodeRequest}
use Rattle.portal_model.specs.declared.request.Request.{Request}
use Rattle.portal_model.specs.declared.state.Connection.{Connection}
use Rattle.portal_model.specs.NodeOutside.{LawfulNode}
use Rattle.portal_model.specs.Outside.{LawfulBus}
use Rattle.portal_model.specs.State.{State, connection_of}
use Rattle.portal_model.specs.Step.{all_told, bus_of, mount_of}
use Rattle.portal_model.specs.Valid.{is_caller}

-- ---- what is given where nothing is looked at

abbrev pub nothing_given : Given
nothing_given = record {
  now = None;
  words = [];
  numbers = [];
  looks = [];
  listed = None;
  generation = None;
  full = false;
  fault = Fault.None;
}

-- ---- what is given to an Enter

-- what binds a connection names a caller; nothing is looked at
abbrev pub LawfulEnter : Who → Given → Type 0
LawfulEnter who given = (is_caller who ≡ true) × (given ≡ nothing_given)

-- ---- what is given to a request on a node

-- Where the seat has no open mount, nothing is. Else it is as the state shows it in which the
-- connection was told what it waited for.
abbrev pub LawfulOnNode : State → NodeRequest → Given → Option Connection → Type 0
LawfulOnNode s r given None = given ≡ nothing_given
LawfulOnNode s r given (Some c) = LawfulNode (all_told c.seat s) c r given

-- ---- what is given to a request of a bus

-- Where the seat has no open bus, nothing is. Else it is as the state shows it in which the
-- connection was told what it waited for, since that state is the one in which the request is
-- answered.
abbrev pub LawfulOnBus : State → Request → Given → Option Connection → Type 0
LawfulOnBus s request given None = given ≡ nothing_given
LawfulOnBus s request given (Some c) = LawfulBus (all_told c.seat s) c request given

-- ---- each kind

abbrev pub LawfulGiven : State → ℕ → Request → Given → Type 0
LawfulGiven s seat (Request.Enter who kind) given = LawfulEnter who given
LawfulGiven s seat Request.Leave given = given ≡ nothing_given
LawfulGiven s seat Request.Collect given = given ≡ nothing_given
LawfulGiven s seat (Request.Node r) given =
    LawfulOnNode s r given (mount_of (connection_of s.connections seat))
LawfulGiven s seat (Request.Present path) given =
    LawfulOnBus s (Request.Present path) given (bus_of (connection_of s.connections seat))
LawfulGiven s seat (Request.Add a) given =
    LawfulOnBus s (Request.Add a) given (bus_of (connection_of s.connections seat))
LawfulGiven s seat (Request.Grant call) given =
    LawfulOnBus s (Request.Grant call) given (bus_of (connection_of s.connections seat))
LawfulGiven s seat (Request.Revoke call) given =
    LawfulOnBus s (Request.Revoke call) given (bus_of (connection_of s.connections seat))
LawfulGiven s seat (Request.DeleteDocument doc) given =
    LawfulOnBus s (Request.DeleteDocument doc) given (bus_of (connection_of s.connections seat))
LawfulGiven s seat (Request.LookupDocument path) given =
    LawfulOnBus s (Request.LookupDocument path) given (bus_of (connection_of s.connections seat))
LawfulGiven s seat (Request.Info doc) given =
    LawfulOnBus s (Request.Info doc) given (bus_of (connection_of s.connections seat))
LawfulGiven s seat (Request.ListDocuments app) given =
    LawfulOnBus s (Request.ListDocuments app) given (bus_of (connection_of s.connections seat))
LawfulGiven s seat (Request.Store call) given =
    LawfulOnBus s (Request.Store call) given (bus_of (connection_of s.connections seat))

pub record Lawful (s : State) (e : Entry) : Type 0 where
  pub given : LawfulGiven s e.seat e.request e.given
