use Rattle.portal_model.proofs.DocumentExampleProofs.{refuses_additions}
use Rattle.portal_model.proofs.document_examples.additions_are_refused.Goals as goal

pub returns : goal.returns
returns c = refuses_additions
