use Rattle.portal_model.proofs.DocumentExampleProofs.{adds_named}
use Rattle.portal_model.proofs.document_examples.files_are_named_in_folders.Goals as goal

pub returns : goal.returns
returns c = adds_named
