use Rattle.cost_laws.proofs.StreamExampleProofs.{cost-of-one-frame}
use Rattle.cost_laws.proofs.examples.cost_of_one_frame.Goals as goal

pub returns : goal.returns
returns c = cost-of-one-frame
