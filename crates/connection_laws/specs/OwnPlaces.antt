-- What an application's own machine replies to the requests of one of its seats.
use Rattle.std.specs.Prelude.{ℕ, ◌==◌, List, [], ◌∷◌, cond}
use Rattle.portal_model.specs.declared.reply.Reply.{Reply}
use Rattle.app_world.specs.TraceItem as item
use Rattle.app_world.specs.TraceItem.{TraceItem}
use Rattle.app_world.specs.World.{Trace, app_run}

-- the seats of the application's own requests, in the order of the trace
abbrev pub own_seats : List TraceItem → List ℕ
own_seats [] = []
own_seats (item.Own own ∷ more) = own.seat ∷ own_seats more
own_seats (item.Gained d rights content ∷ more) = own_seats more
own_seats (item.Lost id rights ∷ more) = own_seats more
own_seats (item.Gone id ∷ more) = own_seats more
own_seats (item.Bytes path generation content ∷ more) = own_seats more
own_seats (item.Turned path generation content ∷ more) = own_seats more

-- of these replies those that stand where this seat stands
abbrev pub at_seat : ℕ → List ℕ → List Reply → List Reply
at_seat seat [] replies = []
at_seat seat (n ∷ ns) [] = []
at_seat seat (n ∷ ns) (r ∷ rs) = cond (n == seat) (r ∷ at_seat seat ns rs) (at_seat seat ns rs)

-- a function of the trace and the seat alone
abbrev pub replies_to : ℕ → Trace → List Reply
replies_to seat t = at_seat seat (own_seats t.items) (app_run t)
