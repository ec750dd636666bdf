use Rattle.app_world.proofs.ComputedExampleProofs.{left}
use Rattle.app_world.proofs.examples.rights_left_by_a_revocation.Goals as goal

pub returns : goal.returns
returns c = left
