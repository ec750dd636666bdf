use Rattle.app_world.proofs.RightsToldLaws.{told}
use Rattle.app_world.proofs.laws.rights_are_told.Goals as goal

pub returns : goal.returns
returns c = told
