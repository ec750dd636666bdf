use Rattle.session.proofs.Grew.{told_alike}
use Rattle.session.proofs.laws.told_replies_are_the_steps.Goals as goal

pub returns : goal.returns
returns c = told_alike
