use Rattle.portal_model.proofs.FileExampleProofs.{older}
use Rattle.portal_model.proofs.file_examples.older_handles_keep_their_rights.Goals as goal

pub returns : goal.returns
returns c = older
