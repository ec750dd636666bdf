use Rattle.std.proofs.Common.{◌≡◌, ◌++◌, drop, map}
use Rattle.app_world.specs.View.{path_content}
use Rattle.app_trace.specs.Contents.{once_each}
use Rattle.app_trace.specs.Told.{path_told}
use Rattle.app_trace.proofs.contents.contents_at.Given as goal

-- what is there so far, and of the paths that are left
abbrev pub invariant-loop-index : goal.invariant-loop-index
invariant-loop-index l =
    map path_told l.contents ++ map (path_content l.files.present) (once_each (drop l.index l.paths))
    ≡ map (path_content l.files.present) (once_each l.paths)
