use Rattle.portal_load.proofs.Scripts.{are_scripts}
use Rattle.portal_load.proofs.Lengths.{are_short}
use Rattle.portal_load.proofs.laws.loads_are_scripts.Goals as goal

pub returns : goal.returns
returns c = record { scripts = are_scripts; short = are_short }
