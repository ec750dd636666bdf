use Rattle.call_laws.proofs.Calls.{calls_on_records}
use Rattle.call_laws.proofs.answers.calls_ask_on_records.Goals as goal

pub returns : goal.returns
returns c settings call request asks = calls_on_records settings call request asks
