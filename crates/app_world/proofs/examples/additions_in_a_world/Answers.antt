use Rattle.app_world.proofs.DocumentExampleProofs.{additions}
use Rattle.app_world.proofs.examples.additions_in_a_world.Goals as goal

pub returns : goal.returns
returns c = additions
