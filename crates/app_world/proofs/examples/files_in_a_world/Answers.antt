use Rattle.app_world.proofs.FileExampleProofs.{files}
use Rattle.app_world.proofs.examples.files_in_a_world.Goals as goal

pub returns : goal.returns
returns c = files
