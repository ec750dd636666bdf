use Rattle.connection_laws.proofs.SightExampleProofs.{length_to_writer}
use Rattle.connection_laws.proofs.examples.length_to_a_writer.Goals as goal

pub returns : goal.returns
returns c = length_to_writer
