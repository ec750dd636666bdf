use Rattle.file_laws.proofs.ReuseExampleProofs.{shared_again}
use Rattle.file_laws.proofs.examples.a_document_is_used_again.Goals as goal

pub returns : goal.returns
returns c = shared_again
