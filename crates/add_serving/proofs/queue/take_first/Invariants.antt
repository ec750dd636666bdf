use Rattle.std.proofs.Common.{◌≡◌, drop}
use Rattle.add_serving.proofs.queue.take_first.Given as goal

-- those so far are gone
abbrev pub invariant-loop-taken : goal.invariant-loop-taken
invariant-loop-taken l = l.queue ≡ drop l.taken l.fn.queue
