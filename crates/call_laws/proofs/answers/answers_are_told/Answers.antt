use Rattle.call_laws.proofs.Calls.{answers_told}
use Rattle.call_laws.proofs.answers.answers_are_told.Goals as goal

pub returns : goal.returns
returns c settings call s e valid asks = answers_told settings call s e valid asks
