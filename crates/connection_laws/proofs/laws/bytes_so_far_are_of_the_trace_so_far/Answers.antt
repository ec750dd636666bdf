use Rattle.connection_laws.proofs.BytesSoFar.{bytes-so-far}
use Rattle.connection_laws.proofs.laws.bytes_so_far_are_of_the_trace_so_far.Goals as goal

pub returns : goal.returns
returns c = bytes-so-far
