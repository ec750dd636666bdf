-- Present of local.docportal.Files1, in the view of the application that asks.
use Rattle.std.specs.Prelude.{ℕ, ◌==◌, List, [], ◌∷◌, ◌++◌, length, map, not, nat_lt, cond}
use Rattle.portal_base.specs.Names.{is_in_own_folder}
use Rattle.portal_model.specs.declared.reply.Answer.{Answer}
use Rattle.portal_model.specs.declared.reply.Code.TheVariants as Code
use Rattle.portal_model.specs.Arguments.{ahead_of_end, is_ended_path}
use Rattle.app_world.specs.OwnVerdict.{OwnVerdict, OwnDoes, own_unless}
use Rattle.app_world.specs.View.{AppView, OwnConnection}

-- the queue of a seat's connection changed, and no other
abbrev pub own_requeued : ℕ → (List (List ℕ) → List (List ℕ)) → OwnConnection → OwnConnection
own_requeued seat change c = cond (c.seat == seat) (record c { queue = change c.queue }) c

abbrev pub own_with_queue : ℕ → (List (List ℕ) → List (List ℕ)) → AppView → AppView
own_with_queue seat change v =
    record v { connections = map (own_requeued seat change) v.connections }

abbrev pub own_queue_path : AppView → OwnConnection → List ℕ → OwnVerdict
own_queue_path v c path =
    own_unless (not (nat_lt (length c.queue) v.queued)) Code.LimitsExceeded
    (OwnDoes
    (own_with_queue c.seat (λ queue. queue ++ path ∷ []) v)
    (Answer.Place (length c.queue)))

-- a path in its own folder
abbrev pub own_present_path : AppView → OwnConnection → List ℕ → OwnVerdict
own_present_path v c path =
    own_unless (not (is_in_own_folder c.app path)) Code.NotAllowed (own_queue_path v c path)

abbrev pub own_present : AppView → OwnConnection → List ℕ → OwnVerdict
own_present v c bytes =
    own_unless (not (is_ended_path bytes)) Code.InvalidArgument
    (own_present_path v c (ahead_of_end bytes))
