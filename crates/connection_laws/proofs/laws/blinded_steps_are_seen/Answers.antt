use Rattle.connection_laws.proofs.BlindedTraces.{blind_steps}
use Rattle.connection_laws.proofs.laws.blinded_steps_are_seen.Goals as goal

pub returns : goal.returns
returns c = blind_steps
