use Rattle.portal_model.proofs.FileExampleProofs.{outlive}
use Rattle.portal_model.proofs.file_examples.handles_outlive_their_documents.Goals as goal

pub returns : goal.returns
returns c = outlive
