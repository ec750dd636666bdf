use Rattle.std.proofs.Common.{◌≡◌, take}
use Rattle.change_signals.proofs.outbox.copies_of.Given as goal

-- the copies so far are the front of the list
abbrev pub invariant-loop-change : goal.invariant-loop-change
invariant-loop-change l = l.copies ≡ take l.change-index l.posted
