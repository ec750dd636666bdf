use Rattle.connection_laws.proofs.Unread.{bytes-blinded}
use Rattle.connection_laws.proofs.laws.bytes_are_of_the_blinded_trace.Goals as goal

pub returns : goal.returns
returns c = bytes-blinded
