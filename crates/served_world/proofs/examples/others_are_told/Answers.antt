use Rattle.served_world.proofs.ExampleProofs.{others}
use Rattle.served_world.proofs.examples.others_are_told.Goals as goal

pub returns : goal.returns
returns c = others
