use Rattle.connection_laws.proofs.Bytes.{bytes-are}
use Rattle.connection_laws.proofs.laws.bytes_are_of_the_trace.Goals as goal

pub returns : goal.returns
returns c = bytes-are
