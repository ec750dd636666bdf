use Rattle.connection_laws.proofs.WholeStreams.{connections-are}
use Rattle.connection_laws.proofs.laws.connections_are_isolated.Goals as goal

pub returns : goal.returns
returns c = connections-are
