use Rattle.folder_laws.proofs.LawExamples.{own}
use Rattle.folder_laws.proofs.examples.connections_name_for_themselves.Goals as goal

pub returns : goal.returns
returns c = own
