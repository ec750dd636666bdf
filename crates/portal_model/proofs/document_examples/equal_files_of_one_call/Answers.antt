use Rattle.portal_model.proofs.DocumentExampleProofs.{adds_of_one_file}
use Rattle.portal_model.proofs.document_examples.equal_files_of_one_call.Goals as goal

pub returns : goal.returns
returns c = adds_of_one_file
