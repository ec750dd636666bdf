use Rattle.file_laws.proofs.OpenExampleProofs.{to_opener}
use Rattle.file_laws.proofs.examples.opened_after_a_revocation.Goals as goal

pub returns : goal.returns
returns c = to_opener
