use Rattle.portal_model.proofs.DocumentExampleProofs.{adds_what_another_holds}
use Rattle.portal_model.proofs.document_examples.an_application_adds_what_another_holds.Goals as goal

pub returns : goal.returns
returns c = adds_what_another_holds
