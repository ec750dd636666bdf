use Rattle.file_laws.proofs.OpenExampleProofs.{elsewhere}
use Rattle.file_laws.proofs.examples.first_number_of_another_connection.Goals as goal

pub returns : goal.returns
returns c = elsewhere
