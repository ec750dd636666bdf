use Rattle.served_world.proofs.ExampleProofs.{worlds}
use Rattle.served_world.proofs.examples.one_trace_of_two_worlds.Goals as goal

pub returns : goal.returns
returns c = worlds
