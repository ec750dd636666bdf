use Rattle.connection_laws.proofs.ServedSoFar.{answers-first}
use Rattle.connection_laws.proofs.laws.answers_come_first.Goals as goal

pub returns : goal.returns
returns c = answers-first
