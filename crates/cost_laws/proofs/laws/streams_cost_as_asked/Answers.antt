use Rattle.cost_laws.proofs.Streams.{streams-cost-as-asked}
use Rattle.cost_laws.proofs.laws.streams_cost_as_asked.Goals as goal

pub returns : goal.returns
returns c = streams-cost-as-asked
