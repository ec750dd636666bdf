use Rattle.connection_laws.proofs.SightExampleProofs.{first_of_open}
use Rattle.connection_laws.proofs.examples.first_byte_of_an_open_file.Goals as goal

pub returns : goal.returns
returns c = first_of_open
