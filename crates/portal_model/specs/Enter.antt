-- Enter, which opens a connection.
use Rattle.std.specs.Prelude.{ℕ, List, [], ◌∷◌, ◌++◌, Option, Some, None}
use Rattle.portal_base.specs.declared.who.Kind.{Kind}
use Rattle.portal_base.specs.declared.who.Who.{Who}
use Rattle.portal_model.specs.declared.reply.Answer.{Answer}
use Rattle.portal_model.specs.declared.reply.Code.TheVariants as Code
use Rattle.portal_model.specs.declared.state.Connection.{Connection}
use Rattle.portal_model.specs.State.{State, connection_of}

-- a connection with nothing presented, opened, unsent or named, and no temporary
abbrev pub new_connection : ℕ → Who → Kind → Connection
new_connection seat who kind = record {
  seat = seat;
  who = who;
  kind = kind;
  queue = [];
  opens = 0;
  unsent = [];
  namings = [];
  temps = [];
  added = 0;
}

-- the connections after an Enter of a seat with that open connection
abbrev pub entered : ℕ → Who → Kind → List Connection → Option Connection → List Connection
entered seat who kind connections None = connections ++ new_connection seat who kind ∷ []
entered seat who kind connections (Some c) = connections

-- a seat has at most one open connection
abbrev pub enter_answer : Option Connection → Answer
enter_answer None = Answer.Done
enter_answer (Some c) = Answer.Refused Code.NotHere

-- the state after, and the answer
abbrev pub enter : State → ℕ → Who → Kind → State × Answer
enter s seat who kind =
    let open_one = connection_of s.connections seat in
    (record s { connections = entered seat who kind s.connections open_one }, enter_answer open_one)
