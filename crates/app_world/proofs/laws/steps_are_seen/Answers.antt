use Rattle.app_world.proofs.WorldLaws.{steps}
use Rattle.app_world.proofs.laws.steps_are_seen.Goals as goal

pub returns : goal.returns
returns c = steps
