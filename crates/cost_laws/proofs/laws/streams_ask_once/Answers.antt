use Rattle.cost_laws.proofs.Streams.{streams-ask-once}
use Rattle.cost_laws.proofs.laws.streams_ask_once.Goals as goal

pub returns : goal.returns
returns c = streams-ask-once
