use Rattle.connection_laws.proofs.ServedSoFar.{served-bytes-so-far}
use Rattle.connection_laws.proofs.laws.bytes_so_far_are_of_the_served_trace.Goals as goal

pub returns : goal.returns
returns c = served-bytes-so-far
