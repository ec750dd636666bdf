use Rattle.std.proofs.Common.{◌≡◌, take}
use Rattle.record_keeper.specs.BadRecords.{applications_of}
use Rattle.portal_start.proofs.opening.names_of.Given as goal

abbrev pub invariant-loop-item : goal.invariant-loop-item
invariant-loop-item l = l.named ≡ applications_of (take l.item-index l.items)
