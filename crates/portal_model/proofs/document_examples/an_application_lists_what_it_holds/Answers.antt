use Rattle.portal_model.proofs.DocumentExampleProofs.{lists_what_it_holds}
use Rattle.portal_model.proofs.document_examples.an_application_lists_what_it_holds.Goals as goal

pub returns : goal.returns
returns c = lists_what_it_holds
