use Rattle.std.proofs.Common.{◌≡◌, take}
use Rattle.std.specs.List.{flat_map}
use Rattle.trace_items.specs.OwnAdds.{reused_here}
use Rattle.trace_items.proofs.adds.reused_files.Given as goal

abbrev pub invariant-loop-item : goal.invariant-loop-item
invariant-loop-item l = l.reused ≡ flat_map (λ item. reused_here l.documents.live l.add item.path) (take l.item-index l.items)
