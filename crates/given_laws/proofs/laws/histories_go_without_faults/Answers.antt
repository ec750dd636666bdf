use Rattle.given_laws.proofs.FaultlessHistories.{histories-go}
use Rattle.given_laws.proofs.laws.histories_go_without_faults.Goals as goal

pub returns : goal.returns
returns c = histories-go
