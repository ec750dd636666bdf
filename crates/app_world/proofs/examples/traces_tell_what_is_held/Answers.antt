use Rattle.app_world.proofs.ExampleProofs.{traces}
use Rattle.app_world.proofs.examples.traces_tell_what_is_held.Goals as goal

pub returns : goal.returns
returns c = traces
