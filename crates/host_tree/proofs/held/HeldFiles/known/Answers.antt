use Rattle.std.proofs.Common.{subst}
use Rattle.host_tree.specs.Beside.{AreHeld}
use Rattle.host_tree.proofs.held.HeldFiles.known.Goals as goal

pub returns-clause-held : goal.returns-clause-held
returns-clause-held c = subst AreHeld c.self.view_is c.self.invariant
