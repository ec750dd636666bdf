use Rattle.std.proofs.Common.{◌≡◌, take}
use Rattle.host_tree.proofs.hidden.replica_of.Given as goal

-- the copy so far is the front of the list
abbrev pub invariant-loop-entry : goal.invariant-loop-entry
invariant-loop-entry l = l.copy.items ≡ take l.entry-index l.files
