-- What a seat knows at its desk, and what an ask does to it.
use Rattle.std.specs.Prelude.{◌≡◌, ℕ, ◌+◌, ◌-◌, ◌^◌, ◌<◌, ◌≤◌, ◌==◌, min, max, List, [], ◌∷◌, ◌++◌, Bool, true, Result, Ok, Err, Option, Some, None, is_some, cond}
use Rattle.std.specs.Option.{option_map}
use Rattle.portal_base.specs.declared.who.Kind.{Kind}
use Rattle.portal_base.specs.declared.who.Who.{Who}
use Rattle.portal_model.specs.declared.entry.Entry.{Entry}
use Rattle.portal_model.specs.declared.reply.Refused.{Refused}
use Rattle.portal_model.specs.declared.reply.Refused.TheVariants.{Memory, Full}
use Rattle.portal_model.specs.declared.reply.Reply.{Reply}
use Rattle.portal_model.specs.declared.request.Request.{Request}
use Rattle.portal_model.specs.declared.state.Connection.{Connection}
use Rattle.portal_model.specs.Alike.{Alike}
use Rattle.portal_model.specs.History.{run, Legal, cost, cost_of}
use Rattle.portal_model.specs.State.{State, connection_of}
use Rattle.portal_model.specs.Step.{after, reply_at}

-- an entry, and the reply to it
pub record Exchange : Type 0 where
  pub entry : Entry
  pub reply : Reply

abbrev pub exchange : State → Entry → Exchange
exchange s e = record { entry = e; reply = reply_at s e }

-- the entries of a seat in a history from a state, each with its reply
abbrev pub exchanges : ℕ → State → List Entry → List Exchange
exchanges seat s [] = []
exchanges seat s (e ∷ es) = cond (e.seat == seat) (exchange s e ∷ []) []
    ++ exchanges seat (after s e) es

-- the one list begins with the other
abbrev pub BeginsWith : List Entry → List Entry → Type 0
BeginsWith whole front = (more : List Entry) × (whole ≡ front ++ more)

-- a count that stops at its greatest value
abbrev pub rises_by : ℕ → ℕ → ℕ
rises_by count more = max count (min (count + more) (2 ^ 64 - 1))

-- what a seat knows: the state that the history began in, its own number, the history as far as it
-- has seen it, its own entries with the replies of their steps, and how many of its requests were
-- refused
pub record Seated : Type 0 where
  pub opening : State
  pub seat : ℕ
  pub seen : List Entry
  pub mine : List Exchange
  pub refusals : ℕ

-- the state after all that was seen
abbrev pub state_seen : Seated → State
state_seen d = run d.opening d.seen

-- the seat has an open connection
abbrev pub is_open : State → ℕ → Bool
is_open s seat = is_some (connection_of s.connections seat)

-- whom a connection is bound to, and what it speaks
pub record Binding : Type 0 where
  pub who : Who
  pub kind : Kind

abbrev pub binding_of : Connection → Binding
binding_of c = record { who = c.who; kind = c.kind }

-- the same of the open connection of a seat
abbrev pub bound : State → ℕ → Option Binding
bound s seat = option_map binding_of (connection_of s.connections seat)

abbrev pub bound_entering : Option Binding → Who → Kind → Option Binding
bound_entering None who kind = Some (record { who = who; kind = kind })
bound_entering (Some b) who kind = Some b

-- the same after a request of the seat itself: an Enter opens a connection where none is open, a
-- Leave ends it
abbrev pub bound_after : Option Binding → Request → Option Binding
bound_after open_one (Request.Enter who kind) = bound_entering open_one who kind
bound_after open_one Request.Leave = None
bound_after open_one request = open_one

-- the same after entries of the seat itself
abbrev pub bound_by : Option Binding → List Entry → Option Binding
bound_by open_one [] = open_one
bound_by open_one (e ∷ es) = bound_by (bound_after open_one e.request) es

-- what is true at each moment: a legal history is seen, and its own entries are those of the seat
-- in it
pub record Known (d : Seated) : Type 0 where
  pub legal : Legal d.opening d.seen
  pub mine : exchanges d.seat d.opening d.seen ≡ d.mine

-- what no ask changes; and the history goes on
pub record Moved (old new : Seated) : Type 0 where
  pub opening : new.opening ≡ old.opening
  pub seat : new.seat ≡ old.seat
  pub begins : BeginsWith new.seen old.seen

-- after the entries of others, this request is the last that was seen, and alone is new of the
-- seat's own, with the step's reply; the reply that is given is alike
pub record Made (old new : Seated) (request : Request) (reply : Reply) : Type 0 where
  pub entry : Entry
  pub others : List Entry
  pub seen : new.seen ≡ old.seen ++ (others ++ entry ∷ [])
  pub seat_is : entry.seat ≡ old.seat
  pub request_is : entry.request ≡ request
  pub reply_is : Alike old.opening.told request
      (reply_at (run old.opening (old.seen ++ others)) entry) reply
  pub mine : new.mine ≡ old.mine ++ exchange (run old.opening (old.seen ++ others)) entry ∷ []
  pub refusals : new.refusals ≡ old.refusals

-- why a request is refused: want of memory, which is free where the history has room for the
-- request, or a history that would cost too much, told by both numbers
abbrev pub HasCause : Seated → Request → Refused → Type 0
HasCause d request Memory = cost d.seen + cost_of request ≤ d.opening.limits.history
HasCause d request (Full now limit) = (now ≡ cost d.seen) × (limit ≡ d.opening.limits.history)
    × (limit < now + cost_of request)

-- the refusal is counted, and nothing is new of the seat's own. The Leave of an open connection is
-- never refused
pub record Denied (old new : Seated) (request : Request) (why : Refused) : Type 0 where
  pub refusals : new.refusals ≡ rises_by old.refusals 1
  pub mine : new.mine ≡ old.mine
  pub cause : HasCause new request why
  pub no_leave : request ≡ Request.Leave → is_open (state_seen old) old.seat ≡ true → ⊥

abbrev pub Answered : Seated → Seated → Request → Result Reply Refused → Type 0
Answered old new request (Ok reply) = Made old new request reply
Answered old new request (Err why) = Denied old new request why

-- what an ask does
pub record Asks (old : Seated) (request : Request) (result : Result Reply Refused)
    (new : Seated) : Type 0 where
  pub moved : Moved old new
  pub answered : Answered old new request result
