use Rattle.portal_model.proofs.DocumentExampleProofs.{revokes_its_own}
use Rattle.portal_model.proofs.document_examples.an_application_revokes_its_own_rights.Goals as goal

pub returns : goal.returns
returns c = revokes_its_own
