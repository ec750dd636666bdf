-- What a call of a seat does that waits for nobody.
use Rattle.std.specs.Prelude.{◌≡◌, ◌≢◌, ℕ, ◌+◌, ◌≤◌, false}
use Rattle.portal_core.specs.Growth.{RefusedFor}
use Rattle.portal_model.specs.declared.request.Request.{Request}
use Rattle.portal_model.specs.History.{cost}
use Rattle.portal_desk.specs.Knowing.{Known}
use Rattle.portal_model.specs.Seated.{Denied, Made, Moved}
use Rattle.portal_model.specs.declared.asked.Asked.{Asked}
use Rattle.turn_desk.specs.Sights.{Sight, Stays, seated_of}

-- an exchange of this call lost, and the last to lose read this holder: a number that a seat may
-- have, and another's. The request is handed back, and all that the seat had seen is as it was
pub record Lost (old : Sight) (request : Request) (holder : ℕ) (again : Request) (new : Sight)
    : Type 0 where
  pub losses : new.knows.losses ≡ old.knows.losses + 1
  pub holder_is : new.knows.holder ≡ holder
  pub seated : (holder ≢ 0) × (holder ≤ 65535)
  pub another : holder ≢ old.knows.number
  pub request_is : again ≡ request
  pub seen : new.knows.seen ≡ old.knows.seen
  pub mine : new.knows.mine ≡ old.knows.mine
  pub refusals : new.refusals ≡ old.refusals

-- A reply is that of one step, in the history that the seat sees grow by this request alone of its
-- own. A refusal is counted and leaves the seat's own entries; the seat has then seen the history
-- to its end, and it is `Full` exactly where that and the request together pass the limit.
abbrev pub Told : Sight → Request → Asked → Sight → Type 0
Told old request (Asked.Answered reply) new = Made (seated_of old) (seated_of new) request reply
    × (new.knows.losses ≡ old.knows.losses)
Told old request (Asked.Busy holder again) new = Lost old request holder again new
Told old request (Asked.Refused why) new = Denied (seated_of old) (seated_of new) request why
    × RefusedFor new.knows.opening new.knows.seen request why
    × (new.knows.losses ≡ old.knows.losses)

-- whatever it answers, it is the same seat of the same turn, doesn't hold the turn, and has seen a
-- legal history that goes on from the former, has just the seat's own entries, and costs no more
-- than its limit
pub record Tries (old : Sight) (request : Request) (asked : Asked) (new : Sight) : Type 0 where
  pub stays : Stays old new
  pub free : new.knows.holds ≡ false
  pub known : Known (seated_of new)
  pub within : cost new.knows.seen ≤ new.knows.opening.limits.history
  pub moved : Moved (seated_of old) (seated_of new)
  pub told : Told old request asked new

-- the length of the history was read, and nothing else changed
pub record Looks (old : Sight) (length_read : ℕ) (new : Sight) : Type 0 where
  pub stays : Stays old new
  pub loads : new.knows.loads ≡ old.knows.loads + 1
  pub known : new.knows.known ≡ length_read
  pub seen : new.knows.seen ≡ old.knows.seen
  pub mine : new.knows.mine ≡ old.knows.mine
  pub losses : new.knows.losses ≡ old.knows.losses
  pub refusals : new.refusals ≡ old.refusals
  pub free : new.knows.holds ≡ false
