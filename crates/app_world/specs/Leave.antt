-- Leave, in the view of the application that leaves.
use Rattle.std.specs.Prelude.{ℕ, ◌==◌, List, not, Option, Some, None}
use Rattle.std.specs.List.{filter}
use Rattle.portal_model.specs.declared.reply.Answer.{Answer}
use Rattle.portal_model.specs.declared.reply.Code.TheVariants as Code
use Rattle.app_world.specs.View.{AppView, OwnConnection, found_connection, prune}

-- the connections after a Leave of a seat with that open connection, which goes with all that it
-- has
abbrev pub own_left : ℕ → List OwnConnection → Option OwnConnection → List OwnConnection
own_left seat connections None = connections
own_left seat connections (Some c) = filter (λ x. not (x.seat == seat)) connections

abbrev pub own_leave_answer : Option OwnConnection → Answer
own_leave_answer None = Answer.Refused Code.NotHere
own_leave_answer (Some c) = Answer.Done

-- the view after, and the answer; what was named by its open files alone leaves the view
abbrev pub own_leave : AppView → ℕ → AppView × Answer
own_leave v seat =
    let open_one = found_connection v.connections seat in
    let more = own_left seat v.connections open_one in
    (prune (record v { connections = more }), own_leave_answer open_one)
