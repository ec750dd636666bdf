use Rattle.portal_model.proofs.FolderExampleProofs.{below}
use Rattle.portal_model.proofs.folder_examples.names_below_an_exported_folder.Goals as goal

pub returns : goal.returns
returns c = below
