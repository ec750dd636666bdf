use Rattle.std.proofs.Common.{◌≡◌}
use Rattle.change_signals.specs.Unsent.{with_last, first_become}
use Rattle.change_signals.proofs.outboxes.post_to_all.Given as goal

-- the boxes so far got the change
abbrev pub invariant-loop-place : goal.invariant-loop-place
invariant-loop-place l = l.boxes.entries ≡ first_become (with_last l.change) l.place l.fn.boxes.entries
