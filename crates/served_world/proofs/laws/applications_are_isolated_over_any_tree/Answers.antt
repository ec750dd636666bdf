use Rattle.served_world.proofs.ServedHistories.{isolated}
use Rattle.served_world.proofs.laws.applications_are_isolated_over_any_tree.Goals as goal

pub returns : goal.returns
returns c = isolated
