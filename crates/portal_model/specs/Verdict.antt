-- What a request comes to, ahead of the limits that all applications share and of the keeper of
-- the records.
use Rattle.std.specs.Prelude.{ℕ, Bool, false, cond}
use Rattle.portal_model.specs.declared.reply.Answer.{Answer}
use Rattle.portal_model.specs.declared.reply.Code.{Code}
use Rattle.portal_model.specs.State.{State}
use Rattle.portal_model.specs.Walk.{Walk, Answers}

pub record Doing : Type 0 where
  -- the state after, and the answer
  pub state : State
  pub answer : Answer
  -- how many documents are made
  pub makes : ℕ
  -- whether that would pass a limit of documents or of applications
  pub exceeds : Bool

pub data Verdict : Type 0 where
  Refuses : Code → Verdict
  Does : Doing → Verdict

-- it is done, makes no document and meets no limit of documents or applications
abbrev pub does : State → Answer → Verdict
does s answer = Does (record { state = s; answer = answer; makes = 0; exceeds = false })

-- the tree isn't asked
abbrev pub refuses : Code → Walk Verdict
refuses code = Answers (Refuses code)

abbrev pub answers : State → Answer → Walk Verdict
answers s answer = Answers (does s answer)

-- checks, in their order: where this is wrong the request is refused so, and nothing comes behind
abbrev pub unless : Bool → Code → Verdict → Verdict
unless wrong code verdict = cond wrong (Refuses code) verdict

abbrev pub walk_unless : Bool → Code → Walk Verdict → Walk Verdict
walk_unless wrong code walk = cond wrong (refuses code) walk
