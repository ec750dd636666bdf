use Rattle.file_laws.proofs.TouchExampleProofs.{apart_told}
use Rattle.file_laws.proofs.examples.other_path_is_not_told.Goals as goal

pub returns : goal.returns
returns c = apart_told
