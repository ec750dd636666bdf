use Rattle.connection_laws.proofs.ServedStreams.{served-isolated}
use Rattle.connection_laws.proofs.laws.served_connections_are_isolated.Goals as goal

pub returns : goal.returns
returns c = served-isolated
