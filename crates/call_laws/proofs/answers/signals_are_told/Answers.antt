use Rattle.call_laws.proofs.Signals.{signals_told}
use Rattle.call_laws.proofs.answers.signals_are_told.Goals as goal

pub returns : goal.returns
returns c s e valid = signals_told s e valid
