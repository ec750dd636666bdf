use Rattle.portal_model.proofs.FileExampleProofs.{writing}
use Rattle.portal_model.proofs.file_examples.writes_at_and_behind_the_end.Goals as goal

pub returns : goal.returns
returns c = writing
