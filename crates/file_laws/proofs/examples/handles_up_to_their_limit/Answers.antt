use Rattle.file_laws.proofs.HandleLimitProofs.{limited}
use Rattle.file_laws.proofs.examples.handles_up_to_their_limit.Goals as goal

pub returns : goal.returns
returns c = limited
