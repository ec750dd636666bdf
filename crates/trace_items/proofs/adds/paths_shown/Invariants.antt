use Rattle.std.proofs.Common.{◌≡◌, take}
use Rattle.std.specs.List.{flat_map}
use Rattle.trace_items.specs.OwnAdds.{looked_at}
use Rattle.trace_items.proofs.adds.paths_shown.Given as goal

-- of the handles so far
abbrev pub invariant-loop-index : goal.invariant-loop-index
invariant-loop-index l = l.paths ≡ flat_map (looked_at l.queue l.add) (take l.index l.add.handles)
