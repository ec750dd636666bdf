use Rattle.connection_laws.proofs.SightExampleProofs.{told}
use Rattle.connection_laws.proofs.examples.bytes_come_with_the_right.Goals as goal

pub returns : goal.returns
returns c = told
