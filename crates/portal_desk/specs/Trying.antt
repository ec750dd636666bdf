-- What an ask does to a seat at a desk that waits for nobody.
use Rattle.std.specs.Prelude.{◌≡◌, ℕ, ◌≤◌, Ok, Err}
use Rattle.portal_base.specs.Outside.{HasRisen}
use Rattle.portal_model.specs.declared.asked.Asked.{Asked}
use Rattle.portal_model.specs.declared.request.Request.{Request}
use Rattle.portal_model.specs.Seated.{Asks, Moved, Seated}

-- Nothing was asked: the history may have grown by entries of others, nothing is new of the seat's
-- own, no refusal is counted, and the request that is handed back is the one that was given.
pub record IsPutOff (old : Seated) (request again : Request) (new : Seated) : Type 0 where
  pub moved : Moved old new
  pub mine : new.mine ≡ old.mine
  pub refusals : new.refusals ≡ old.refusals
  pub handed_back : again ≡ request

-- an answer and a refusal are those of a desk that waits
abbrev pub Attempts : Seated → Request → Asked → Seated → Type 0
Attempts old request (Asked.Answered reply) new = Asks old request (Ok reply) new
Attempts old request (Asked.Busy holder again) new = IsPutOff old request again new
Attempts old request (Asked.Refused why) new = Asks old request (Err why) new

-- only an answer that the desk is busy is counted
abbrev pub CountsBusy : ℕ → Asked → ℕ → Type 0
CountsBusy old (Asked.Answered reply) new = new ≡ old
CountsBusy old (Asked.Busy holder again) new = (old ≤ new) × HasRisen old new
CountsBusy old (Asked.Refused why) new = new ≡ old
