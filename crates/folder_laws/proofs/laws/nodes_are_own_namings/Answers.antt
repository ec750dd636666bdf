use Rattle.folder_laws.proofs.AnsweredNodes.{own-namings}
use Rattle.folder_laws.proofs.laws.nodes_are_own_namings.Goals as goal

pub returns : goal.returns
returns c = own-namings
