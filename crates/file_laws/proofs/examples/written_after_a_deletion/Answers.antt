use Rattle.file_laws.proofs.OpenExampleProofs.{to_writer}
use Rattle.file_laws.proofs.examples.written_after_a_deletion.Goals as goal

pub returns : goal.returns
returns c = to_writer
