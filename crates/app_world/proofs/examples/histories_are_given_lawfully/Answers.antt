use Rattle.app_world.proofs.DocumentExampleProofs.{lawful}
use Rattle.app_world.proofs.examples.histories_are_given_lawfully.Goals as goal

pub returns : goal.returns
returns c = lawful
