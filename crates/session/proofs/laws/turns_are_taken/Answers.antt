use Rattle.session.proofs.TurnsTaken.{turns_are_taken}
use Rattle.session.proofs.laws.turns_are_taken.Goals as goal

pub returns : goal.returns
returns c = turns_are_taken
