use Rattle.file_laws.proofs.OpenExampleProofs.{to_reader}
use Rattle.file_laws.proofs.examples.read_after_a_revocation.Goals as goal

pub returns : goal.returns
returns c = to_reader
