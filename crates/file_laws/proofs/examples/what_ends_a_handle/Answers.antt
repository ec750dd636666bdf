use Rattle.file_laws.proofs.OpenExampleProofs.{ending}
use Rattle.file_laws.proofs.examples.what_ends_a_handle.Goals as goal

pub returns : goal.returns
returns c = ending
