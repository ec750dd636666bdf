use Rattle.connection_laws.proofs.BlindedTraces.{blind_trace}
use Rattle.connection_laws.proofs.laws.replies_are_of_the_blinded_trace.Goals as goal

pub returns : goal.returns
returns c = blind_trace
