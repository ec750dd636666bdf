use Rattle.folder_laws.proofs.LawExamples.{made}
use Rattle.folder_laws.proofs.examples.a_file_is_made.Goals as goal

pub returns : goal.returns
returns c = made
