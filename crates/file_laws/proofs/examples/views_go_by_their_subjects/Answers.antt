use Rattle.file_laws.proofs.StrictExampleProofs.{in-views}
use Rattle.file_laws.proofs.examples.views_go_by_their_subjects.Goals as goal

pub returns : goal.returns
returns c = in-views
