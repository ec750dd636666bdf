use Rattle.file_laws.proofs.TouchExampleProofs.{shared_told}
use Rattle.file_laws.proofs.examples.shared_file_is_told.Goals as goal

pub returns : goal.returns
returns c = shared_told
