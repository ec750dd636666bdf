use Rattle.file_laws.proofs.OpenExampleProofs.{again}
use Rattle.file_laws.proofs.examples.rights_given_again.Goals as goal

pub returns : goal.returns
returns c = again
