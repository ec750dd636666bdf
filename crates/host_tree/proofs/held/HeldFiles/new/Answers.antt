use Rattle.std.proofs.Common.{sym, subst}
use Rattle.host_tree.specs.Beside.{AreBeside}
use Rattle.host_tree.proofs.BesideFiles.{none-beside}
use Rattle.host_tree.proofs.held.HeldFiles.new.Goals as goal

pub invariant_of-result : goal.invariant_of-result
invariant_of-result c = subst (AreBeside c.new.result) (sym c.new-2.ensures) (none-beside c.new.result)
