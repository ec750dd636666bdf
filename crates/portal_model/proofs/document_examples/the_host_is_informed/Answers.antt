use Rattle.portal_model.proofs.DocumentExampleProofs.{informs_the_host}
use Rattle.portal_model.proofs.document_examples.the_host_is_informed.Goals as goal

pub returns : goal.returns
returns c = informs_the_host
