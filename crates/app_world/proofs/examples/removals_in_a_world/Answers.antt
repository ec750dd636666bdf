use Rattle.app_world.proofs.DocumentExampleProofs.{removals}
use Rattle.app_world.proofs.examples.removals_in_a_world.Goals as goal

pub returns : goal.returns
returns c = removals
