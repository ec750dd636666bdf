use Rattle.served_world.proofs.ExampleProofs.{contents}
use Rattle.served_world.proofs.examples.contents_differ_alone.Goals as goal

pub returns : goal.returns
returns c = contents
