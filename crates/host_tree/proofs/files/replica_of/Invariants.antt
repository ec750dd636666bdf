use Rattle.std.proofs.Common.{◌≡◌, ◌++◌}
use Rattle.host_tree.proofs.files.replica_of.Given as goal

-- the copy so far, and behind it what is left, are the map
abbrev pub invariant-loop-path : goal.invariant-loop-path
invariant-loop-path l = l.copy.entries ++ l.path-iterator ≡ l.map.entries
