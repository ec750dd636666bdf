use Rattle.std.proofs.Common.{◌≡◌}
use Rattle.change_signals.specs.Unsent.{without_last, first_become}
use Rattle.change_signals.proofs.outboxes.unpost_first.Given as goal

-- the boxes so far lost their last signal
abbrev pub invariant-loop-place : goal.invariant-loop-place
invariant-loop-place l = l.boxes.entries ≡ first_become without_last l.place l.fn.boxes.entries
