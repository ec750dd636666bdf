use Rattle.served_world.proofs.ExampleProofs.{added}
use Rattle.served_world.proofs.examples.added_by_looks.Goals as goal

pub returns : goal.returns
returns c = added
