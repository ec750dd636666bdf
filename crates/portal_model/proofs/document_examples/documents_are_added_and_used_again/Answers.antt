use Rattle.portal_model.proofs.DocumentExampleProofs.{adds_and_reuses}
use Rattle.portal_model.proofs.document_examples.documents_are_added_and_used_again.Goals as goal

pub returns : goal.returns
returns c = adds_and_reuses
