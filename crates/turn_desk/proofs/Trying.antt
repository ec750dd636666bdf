-- A seat is a desk that waits for nobody.
use Rattle.std.proofs.Common.{arith}
use Rattle.portal_desk.specs.Trying.{Attempts, CountsBusy}
use Rattle.portal_model.specs.declared.asked.Asked.{Asked}
use Rattle.portal_model.specs.declared.request.Request.{Request}
use Rattle.turn_desk.specs.Asking.{Tries}
use Rattle.turn_desk.specs.Sights.{Sight, seated_of}

pub attempts : (old : Sight) (request : Request) (asked : Asked) (new : Sight) → Tries old request asked new → Attempts (seated_of old) request asked (seated_of new)
attempts old request (Asked.Answered reply) new t = record { moved = t.moved; answered = t.told.0 }
attempts old request (Asked.Busy holder again) new t = record { moved = t.moved; mine = t.told.mine; refusals = t.told.refusals; handed_back = t.told.request_is }
attempts old request (Asked.Refused why) new t = record { moved = t.moved; answered = t.told.0 }

-- an exchange that lost is counted
pub counts_busy : (old : Sight) (request : Request) (asked : Asked) (new : Sight) → Tries old request asked new → CountsBusy old.knows.losses asked new.knows.losses
counts_busy old request (Asked.Answered reply) new t = t.told.1
counts_busy old request (Asked.Busy holder again) new t =
    let more = t.told.losses in
    (omega (arith, more), omega (arith, more))
counts_busy old request (Asked.Refused why) new t = t.told.2
