use Rattle.portal_model.proofs.FileExampleProofs.{numbers}
use Rattle.portal_model.proofs.file_examples.connections_number_their_handles.Goals as goal

pub returns : goal.returns
returns c = numbers
