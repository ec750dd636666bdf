use Rattle.app_world.proofs.DocumentExampleProofs.{calls}
use Rattle.app_world.proofs.examples.calls_in_a_world.Goals as goal

pub returns : goal.returns
returns c = calls
