use Rattle.served_world.proofs.ExampleProofs.{asked}
use Rattle.served_world.proofs.examples.asked_at_its_files.Goals as goal

pub returns : goal.returns
returns c = asked
