use Rattle.portal_model.proofs.FileExampleProofs.{creating}
use Rattle.portal_model.proofs.file_examples.files_are_made_in_their_folders.Goals as goal

pub returns : goal.returns
returns c = creating
