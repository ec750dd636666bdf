-- What the requests of a connection meet.
use Rattle.std.specs.Prelude.{◌≡◌, ◌≢◌, ◌≤◌, List, ◌∷◌, ◌++◌, length, Some}
use Rattle.portal_model.specs.declared.entry.Entry.{Entry}
use Rattle.portal_model.specs.declared.reply.Answer.{Answer}
use Rattle.portal_model.specs.declared.reply.Answer.TheVariants as answer
use Rattle.portal_model.specs.declared.reply.Code.TheVariants.{NotHere}
use Rattle.portal_model.specs.declared.reply.NodeAnswer.{NodeAnswer}
use Rattle.portal_model.specs.declared.request.Request.{Request}
use Rattle.portal_model.specs.History.{run}
use Rattle.portal_model.specs.Seated.{Seated}
use Rattle.portal_model.specs.Step.{reply_at}
use Rattle.session.specs.Frames.{told_of}

-- Of a request on a node a frame tells the answer; one on documents isn't answered that the seat
-- has no open connection. Any other is done.
abbrev pub Meets : Request → Answer → Type 0
Meets (Request.Enter who kind) met = met ≡ answer.Done
Meets Request.Leave met = met ≡ answer.Done
Meets Request.Collect met = met ≡ answer.Done
Meets (Request.Node r) met = (told : NodeAnswer) × (told_of met ≡ Some told)
Meets request met = met ≢ answer.Refused NotHere

-- So it is with each new entry of the seat: none meets a seat without an open connection.
abbrev pub IsHeard : Seated → Seated → Type 0
IsHeard v w = (front after : List Entry) (e : Entry) → w.seen ≡ front ++ e ∷ after
    → length v.seen ≤ length front → e.seat ≡ w.seat
    → Meets e.request (reply_at (run w.opening front) e).answer
