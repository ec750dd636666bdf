use Rattle.session.proofs.AnswersAsked.{short_begins}
use Rattle.session.proofs.laws.a_part_is_a_prefix.Goals as goal

pub returns : goal.returns
returns c = short_begins
