use Rattle.std.proofs.Common.{◌≡◌, take}
use Rattle.app_trace.specs.Held.{held_among}
use Rattle.app_trace.proofs.held.held_among.Given as goal

abbrev pub invariant-loop-item : goal.invariant-loop-item
invariant-loop-item l = l.held ≡ held_among l.rights l.app (take l.item-index l.items)
