use Rattle.std.proofs.Common.{◌≡◌, take}
use Rattle.app_trace.specs.Contents.{paths_held as held_paths}
use Rattle.app_trace.proofs.contents.paths_held.Given as goal

abbrev pub invariant-loop-item : goal.invariant-loop-item
invariant-loop-item l = l.paths ≡ held_paths l.folder (take l.item-index l.held)
