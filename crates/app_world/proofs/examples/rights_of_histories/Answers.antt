use Rattle.app_world.proofs.DocumentExampleProofs.{rights}
use Rattle.app_world.proofs.examples.rights_of_histories.Goals as goal

pub returns : goal.returns
returns c = rights
