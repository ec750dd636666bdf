use Rattle.std.proofs.Common.{◌≡◌}
use Rattle.file_ops.specs.Temporaries.{puts}
use Rattle.file_ops.proofs.temps_listed.put_each.Given as goal

-- those that are left are still to be put
abbrev pub invariant-loop-entry : goal.invariant-loop-entry
invariant-loop-entry l = puts l.left.items l.names.items ≡ puts l.fn.left.items l.fn.names.items

abbrev pub decreases-loop-entry : goal.decreases-loop-entry
decreases-loop-entry l = goal.left-loop-entry l
