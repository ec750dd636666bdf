use Rattle.served_world.proofs.ExampleProofs.{length_is}
use Rattle.served_world.proofs.examples.length_told_of_a_file.Goals as goal

pub returns : goal.returns
returns c = length_is
