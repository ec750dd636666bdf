use Rattle.portal_model.proofs.DocumentExampleProofs.{keeper_fails}
use Rattle.portal_model.proofs.document_examples.the_keeper_fails.Goals as goal

pub returns : goal.returns
returns c = keeper_fails
