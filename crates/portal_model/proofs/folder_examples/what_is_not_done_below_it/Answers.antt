use Rattle.portal_model.proofs.FolderExampleProofs.{not_below}
use Rattle.portal_model.proofs.folder_examples.what_is_not_done_below_it.Goals as goal

pub returns : goal.returns
returns c = not_below
