use Rattle.portal_model.proofs.DocumentExampleProofs.{grants_in_a_document}
use Rattle.portal_model.proofs.document_examples.rights_are_granted.Goals as goal

pub returns : goal.returns
returns c = grants_in_a_document
