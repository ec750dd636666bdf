use Rattle.cost_laws.proofs.StreamExampleProofs.{cost-of-silence}
use Rattle.cost_laws.proofs.examples.cost_of_silence.Goals as goal

pub returns : goal.returns
returns c = cost-of-silence
