use Rattle.portal_model.proofs.DocumentExampleProofs.{applications_are_full}
use Rattle.portal_model.proofs.document_examples.applications_are_full.Goals as goal

pub returns : goal.returns
returns c = applications_are_full
