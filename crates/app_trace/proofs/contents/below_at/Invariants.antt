use Rattle.std.proofs.Common.{◌≡◌, ◌++◌, drop, map}
use Rattle.app_world.specs.View.{path_below}
use Rattle.app_trace.specs.Contents.{once_each}
use Rattle.app_trace.specs.Told.{below_told}
use Rattle.app_trace.proofs.contents.below_at.Given as goal

-- what is there so far, and of the paths that are left
abbrev pub invariant-loop-index : goal.invariant-loop-index
invariant-loop-index l =
    map below_told l.below ++ map (path_below l.files.present) (once_each (drop l.index l.paths))
    ≡ map (path_below l.files.present) (once_each l.paths)
