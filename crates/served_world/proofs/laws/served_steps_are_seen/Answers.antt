use Rattle.served_world.proofs.ServedSteps.{served_steps}
use Rattle.served_world.proofs.laws.served_steps_are_seen.Goals as goal

pub returns : goal.returns
returns c = served_steps
