use Rattle.connection_laws.proofs.ReadExampleProofs.{front_is}
use Rattle.connection_laws.proofs.examples.same_front_of_reads.Goals as goal

pub returns : goal.returns
returns c = front_is
