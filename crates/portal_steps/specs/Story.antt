-- What a portal is to contracts: its devices, its story, and how often it refused.
use Rattle.std.specs.Prelude.{◌≡◌, ◌+◌, ◌<◌, ◌≤◌, ℕ, List, Option}
use Rattle.file_generations.specs.Generations.{Held}
use Rattle.portal_model.specs.declared.entry.Entry.{Entry}
use Rattle.portal_model.specs.declared.opening.OpeningState.{OpeningState}
use Rattle.portal_model.specs.declared.reply.Refused.{Refused}
use Rattle.portal_model.specs.declared.reply.Refused.TheVariants.{Memory, Full}
use Rattle.portal_model.specs.declared.request.Request.{Request}
use Rattle.portal_model.specs.History.{run, cost, cost_of}
use Rattle.portal_model.specs.Opening.{opened_over}
use Rattle.portal_model.specs.State.{State}

-- the files that the tree began with, where it tells them; the opening state, whose own list of
-- files doesn't count; and the history
pub record Story : Type 0 where
  pub began : Option Held
  pub opening : OpeningState
  pub history : List Entry

-- the four devices, the story, for how many requests memory was taken ahead, and how many were
-- refused, up to the greatest count
pub record PortalIs (T K C W : Type 0) : Type 0 where
  pub tree : T
  pub keeper : K
  pub clock : C
  pub words : W
  pub story : Story
  pub spare : ℕ
  pub refusals : ℕ

-- all is as before, but for the memory that was taken ahead and the count of refusals
abbrev pub IsAsBefore : {T K C W : Type 0} → PortalIs T K C W → PortalIs T K C W → Type 0
IsAsBefore old new = new ≡ record old { spare = new.spare; refusals = new.refusals }

-- all is as before, but for the count of refusals
abbrev pub OnlyCounts : {T K C W : Type 0} → PortalIs T K C W → PortalIs T K C W → Type 0
OnlyCounts old new = new ≡ record old { refusals = new.refusals }

-- the state that the history began in
abbrev pub state_first : Story → State
state_first p = opened_over p.began p.opening

-- the state after the whole history
abbrev pub state_now : Story → State
state_now p = run (state_first p) p.history

-- the limit of the history's cost, in bytes
abbrev pub limit_of : Story → ℕ
limit_of p = p.opening.limits.history

-- what the history would cost with this request too
abbrev pub cost_with : Story → Request → ℕ
cost_with p request = cost p.history + cost_of request

-- why a request is no entry: want of memory, which is free, or a history that would cost too much,
-- told by both numbers
abbrev pub HasCause : Story → Request → Refused → Type 0
HasCause p request Memory = cost_with p request ≤ limit_of p
HasCause p request (Full cost_now limit) = (cost_now ≡ cost p.history) × (limit ≡ limit_of p)
    × (limit_of p < cost_with p request)
