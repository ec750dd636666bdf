use Rattle.add_calls.proofs.Giving.{few-back, none-back, number-back}
use Rattle.add_calls.proofs.give.take_number_back.Goals as goal
use Rattle.add_calls.proofs.give.take_number_back.Goals.{else-numbered-via-else-numbered, else-numbered-via-then-numbered+else-len-gt0}

pub returns-then-len-gt0 : goal.returns-then-len-gt0
returns-then-len-gt0 c = λ app apps e. number-back c.args.applications.now c.take_back.new.self c.args.numbered app apps c.if-numbered.true c.take_back.ensures e

pub returns-else-numbered : goal.returns-else-numbered
returns-else-numbered c = λ app apps e. elim c.else-numbered.branch [
  | else-numbered-via-then-numbered+else-len-gt0 w ↦ few-back c.args.applications.now c.args.numbered app apps w.len.result w.len.ensures.count w.if-len-gt0.false w.if-numbered.true e
  | else-numbered-via-else-numbered w ↦ none-back c.args.applications.now c.args.numbered app apps w.if-numbered.false e
]
