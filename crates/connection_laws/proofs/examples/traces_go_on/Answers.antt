use Rattle.connection_laws.proofs.ReadExampleProofs.{goes_on}
use Rattle.connection_laws.proofs.examples.traces_go_on.Goals as goal

pub returns : goal.returns
returns c = goes_on
