use Rattle.connection_laws.proofs.ServedBytes.{served-bytes}
use Rattle.connection_laws.proofs.laws.bytes_are_of_the_served_trace.Goals as goal

pub returns : goal.returns
returns c = served-bytes
