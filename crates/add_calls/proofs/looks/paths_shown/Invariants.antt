use Rattle.std.proofs.Common.{◌≡◌, take}
use Rattle.std.specs.List.{flat_map}
use Rattle.portal_model.specs.AddArguments.{paths_looked_at}
use Rattle.add_files.specs.Items.{presented_of}
use Rattle.add_calls.proofs.looks.paths_shown.Given as goal

-- the paths of the files so far
abbrev pub invariant-loop-at : goal.invariant-loop-at
invariant-loop-at l = l.paths ≡ flat_map (paths_looked_at l.add) (presented_of l.presented (take l.at l.handles))
