use Rattle.std.proofs.Common.{◌≡◌, take}
use Rattle.record_keeper.proofs.in_memory.copy_of.Given as goal

-- the copy so far is the front of the list
abbrev pub invariant-loop-item : goal.invariant-loop-item
invariant-loop-item g l = l.copy ≡ take l.item-index l.items
