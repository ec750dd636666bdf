use Rattle.portal_load.proofs.ReadFrames.{are_read}
use Rattle.portal_load.proofs.laws.frames_are_read.Goals as goal

pub returns : goal.returns
returns c = are_read
