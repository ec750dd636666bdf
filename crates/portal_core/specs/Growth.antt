-- A history that is kept, seen as a list of entries from a state: how an answer lets it grow, and
-- why a request is refused.
use Rattle.std.specs.Prelude.{◌≡◌, ◌+◌, ◌<◌, ◌≤◌, ℕ, List, [], ◌∷◌, ◌++◌}
use Rattle.portal_model.specs.declared.entry.Entry.{Entry}
use Rattle.portal_model.specs.declared.reply.Refused.{Refused}
use Rattle.portal_model.specs.declared.reply.Refused.TheVariants.{Memory, Full}
use Rattle.portal_model.specs.declared.reply.Reply.{Reply}
use Rattle.portal_model.specs.declared.request.Request.{Request}
use Rattle.portal_model.specs.Alike.{Alike}
use Rattle.portal_model.specs.History.{run, cost, cost_of}
use Rattle.portal_model.specs.State.{State}
use Rattle.portal_model.specs.Step.{reply_at}

-- what the history would cost with this request too
abbrev pub cost_after : List Entry → Request → ℕ
cost_after h request = cost h + cost_of request

-- the history grew by one entry, of this seat and request, of which this is said; the reply is
-- alike to the step's
pub record GrowsBy (says : Entry
    → Type 0) (s : State) (old new : List Entry) (seat : ℕ) (request : Request)
    (reply : Reply) : Type 0 where
  pub entry : Entry
  pub grown : new ≡ old ++ entry ∷ []
  pub seat_is : entry.seat ≡ seat
  pub request_is : entry.request ≡ request
  pub reply_is : Alike s.told request (reply_at (run s old) entry) reply
  pub said : says entry

-- why a request is no entry: want of memory, which is free, or a history that would cost too much,
-- told by both numbers
abbrev pub RefusedFor : State → List Entry → Request → Refused → Type 0
RefusedFor s h request Memory = cost_after h request ≤ s.limits.history
RefusedFor s h request (Full cost_now limit) = (cost_now ≡ cost h) × (limit ≡ s.limits.history)
    × (s.limits.history < cost_after h request)
