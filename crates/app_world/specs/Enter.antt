-- Enter, in the view of the application that enters.
use Rattle.std.specs.Prelude.{ℕ, List, [], ◌∷◌, ◌++◌, Option, Some, None}
use Rattle.portal_base.specs.declared.who.Kind.{Kind}
use Rattle.portal_base.specs.declared.who.Who.{Who}
use Rattle.portal_model.specs.declared.reply.Answer.{Answer}
use Rattle.portal_model.specs.declared.reply.Code.TheVariants as Code
use Rattle.app_world.specs.View.{AppView, OwnConnection, found_connection}

-- a connection with nothing presented, nothing open and nothing named. The host's are in no view
abbrev pub new_own_connection : ℕ → Who → Kind → List OwnConnection
new_own_connection seat Who.Host kind = []
new_own_connection seat (Who.App app) kind =
    record {
      seat = seat;
      app = app;
      kind = kind;
      queue = [];
      opens = 0;
      handles = [];
      namings = [];
      temps = [];
      added = 0;
    } ∷ []

-- the connections after an Enter of a seat with that open connection
abbrev pub own_entered :
    ℕ → Who → Kind → List OwnConnection → Option OwnConnection → List OwnConnection
own_entered seat who kind connections None = connections ++ new_own_connection seat who kind
own_entered seat who kind connections (Some c) = connections

-- a seat has at most one open connection
abbrev pub own_enter_answer : Option OwnConnection → Answer
own_enter_answer None = Answer.Done
own_enter_answer (Some c) = Answer.Refused Code.NotHere

-- the view after, and the answer
abbrev pub own_enter : AppView → ℕ → Who → Kind → AppView × Answer
own_enter v seat who kind =
    let open_one = found_connection v.connections seat in
    let more = own_entered seat who kind v.connections open_one in
    (record v { connections = more }, own_enter_answer open_one)
