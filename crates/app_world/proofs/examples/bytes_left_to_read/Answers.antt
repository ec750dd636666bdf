use Rattle.app_world.proofs.FileExampleProofs.{left_to_read}
use Rattle.app_world.proofs.examples.bytes_left_to_read.Goals as goal

pub returns : goal.returns
returns c = left_to_read
