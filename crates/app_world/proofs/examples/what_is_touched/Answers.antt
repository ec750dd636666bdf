use Rattle.app_world.proofs.DocumentExampleProofs.{touched}
use Rattle.app_world.proofs.examples.what_is_touched.Goals as goal

pub returns : goal.returns
returns c = touched
