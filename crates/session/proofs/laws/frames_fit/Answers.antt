use Rattle.session.proofs.FramesFit.{frames_fit}
use Rattle.session.proofs.laws.frames_fit.Goals as goal

pub returns : goal.returns
returns c = frames_fit
