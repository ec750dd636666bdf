use Rattle.served_world.proofs.ExampleProofs.{moment}
use Rattle.served_world.proofs.examples.moment_in_a_trace.Goals as goal

pub returns : goal.returns
returns c = moment
