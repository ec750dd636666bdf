use Rattle.connection_laws.proofs.BytesSoFar.{items-first}
use Rattle.connection_laws.proofs.laws.items_are_asked_first.Goals as goal

pub returns : goal.returns
returns c = items-first
