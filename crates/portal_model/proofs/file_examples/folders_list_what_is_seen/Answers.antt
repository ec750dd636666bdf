use Rattle.portal_model.proofs.FileExampleProofs.{listing}
use Rattle.portal_model.proofs.file_examples.folders_list_what_is_seen.Goals as goal

pub returns : goal.returns
returns c = listing
