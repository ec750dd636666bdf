use Rattle.std.proofs.Common.{◌≡◌, ◌++◌}
use Rattle.std.specs.List.{filter}
use Rattle.tree_files.specs.Kept.{files_of, stands_in}
use Rattle.tree_files.proofs.files.files_in.Given as goal

-- the files so far, and behind them those of what is left, are all
abbrev pub invariant-loop-path : goal.invariant-loop-path
invariant-loop-path l = l.files ++ filter (stands_in l.folder) (files_of l.path-iterator) ≡ filter (stands_in l.folder) (files_of l.map.entries)
