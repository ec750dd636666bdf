use Rattle.connection_laws.proofs.SightExampleProofs.{seen}
use Rattle.connection_laws.proofs.examples.what_is_in_sight.Goals as goal

pub returns : goal.returns
returns c = seen
