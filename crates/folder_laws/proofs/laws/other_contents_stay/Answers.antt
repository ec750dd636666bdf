use Rattle.folder_laws.proofs.FolderLaws.{others-stay}
use Rattle.folder_laws.proofs.laws.other_contents_stay.Goals as goal

pub returns : goal.returns
returns c = others-stay
