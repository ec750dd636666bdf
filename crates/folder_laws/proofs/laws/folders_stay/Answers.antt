use Rattle.folder_laws.proofs.FolderLaws.{folders-stay}
use Rattle.folder_laws.proofs.laws.folders_stay.Goals as goal

pub returns : goal.returns
returns c = folders-stay
