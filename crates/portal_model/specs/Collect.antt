-- Collect, which asks for nothing but the changes that were not told yet. These ride in its reply,
-- as in that of each request of a bus.
use Rattle.portal_model.specs.declared.reply.Answer.{Answer}
use Rattle.portal_model.specs.State.{State}

-- the state after, and the answer
abbrev pub collect : State → State × Answer
collect s = (s, Answer.Done)
