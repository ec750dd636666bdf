use Rattle.given_laws.proofs.FaultLaws.{faults-change-nothing}
use Rattle.given_laws.proofs.laws.faults_change_nothing.Goals as goal

pub returns : goal.returns
returns c = faults-change-nothing
