-- Present of local.docportal.Files1: a file joins the queue of its connection. The tree isn't
-- asked.
use Rattle.std.specs.Prelude.{ℕ, ◌==◌, List, [], ◌∷◌, ◌++◌, length, map, Bool, true, not, nat_lt, cond}
use Rattle.portal_base.specs.Names.{is_in_own_folder}
use Rattle.portal_base.specs.declared.who.Who.{Who}
use Rattle.portal_model.specs.declared.reply.Answer.{Answer}
use Rattle.portal_model.specs.declared.reply.Code.TheVariants as Code
use Rattle.portal_model.specs.declared.state.Connection.{Connection}
use Rattle.portal_model.specs.Arguments.{ahead_of_end, is_ended_path}
use Rattle.portal_model.specs.State.{State}
use Rattle.portal_model.specs.Verdict.{Verdict, does, unless}

-- the queue of a seat's connection changed, and no other
abbrev pub requeued : ℕ → (List (List ℕ) → List (List ℕ)) → Connection → Connection
requeued seat change c = cond (c.seat == seat) (record c { queue = change c.queue }) c

abbrev pub with_queue : ℕ → (List (List ℕ) → List (List ℕ)) → State → State
with_queue seat change s = record s { connections = map (requeued seat change) s.connections }

-- an application may present what lies in its own folder, the host any path
abbrev pub may_present : Who → List ℕ → Bool
may_present Who.Host path = true
may_present (Who.App app) path = is_in_own_folder app path

abbrev pub queue_path : State → Connection → List ℕ → Verdict
queue_path s c path =
    unless (not (nat_lt (length c.queue) s.limits.queued)) Code.LimitsExceeded
    (does (with_queue c.seat (λ queue. queue ++ path ∷ []) s) (Answer.Place (length c.queue)))

abbrev pub present_path : State → Connection → List ℕ → Verdict
present_path s c path = unless (not (may_present c.who path)) Code.NotAllowed (queue_path s c path)

-- the bytes are those of the argument, with the zero byte that ends them
abbrev pub present : State → Connection → List ℕ → Verdict
present s c bytes =
    unless (not (is_ended_path bytes)) Code.InvalidArgument (present_path s c (ahead_of_end bytes))
