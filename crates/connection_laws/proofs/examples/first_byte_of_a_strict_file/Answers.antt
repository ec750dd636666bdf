use Rattle.connection_laws.proofs.SightExampleProofs.{first_of_strict}
use Rattle.connection_laws.proofs.examples.first_byte_of_a_strict_file.Goals as goal

pub returns : goal.returns
returns c = first_of_strict
