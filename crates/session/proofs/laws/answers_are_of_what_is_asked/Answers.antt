use Rattle.session.proofs.AnswersAsked.{answer_asked}
use Rattle.session.proofs.laws.answers_are_of_what_is_asked.Goals as goal

pub returns : goal.returns
returns c = answer_asked
