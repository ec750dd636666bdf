use Rattle.std.proofs.Common.{◌≡◌, ◌≤◌, take}
use Rattle.std.specs.List.{count_by}
use Rattle.add_files.specs.Plans.{is_new}
use Rattle.add_files.proofs.files.used.Given as goal

-- so many of the items so far
abbrev pub invariant-loop-item : goal.invariant-loop-item
invariant-loop-item l = (l.used ≡ count_by (λ item. is_new item.place) (take l.item-index l.items)) × (l.used ≤ l.item-index)
