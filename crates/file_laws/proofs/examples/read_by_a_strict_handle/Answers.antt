use Rattle.file_laws.proofs.StrictExampleProofs.{to_strict_reader}
use Rattle.file_laws.proofs.examples.read_by_a_strict_handle.Goals as goal

pub returns : goal.returns
returns c = to_strict_reader
