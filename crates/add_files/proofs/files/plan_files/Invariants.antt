use Rattle.std.proofs.Common.{◌≡◌, length, take, true}
use Rattle.std.specs.List.{list_all}
use Rattle.add_files.specs.Arguments.{is_joined_well}
use Rattle.add_files.specs.Items.{items_of, paths_of, presented_of}
use Rattle.add_files.proofs.files.plan_files.Given as goal

-- the items so far are those of the files so far
abbrev pub invariant-loop-handle : goal.invariant-loop-handle
invariant-loop-handle l =
    (l.items ≡ items_of l.documents.live l.who l.add l.app (paths_of l.add l.paths (take l.handle-index l.handle-items)))
    × (list_all (is_joined_well l.add) (presented_of l.paths (take l.handle-index l.handle-items)) ≡ true)
    × (length l.items ≡ l.handle-index)
