use Rattle.app_world.proofs.ExampleProofs.{effects}
use Rattle.app_world.proofs.examples.effects_on_a_view.Goals as goal

pub returns : goal.returns
returns c = effects
