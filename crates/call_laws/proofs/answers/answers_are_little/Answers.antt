use Rattle.call_laws.proofs.LittleAnswers.{answers_little}
use Rattle.call_laws.proofs.answers.answers_are_little.Goals as goal

pub returns : goal.returns
returns c settings call method s e asks is changes right = answers_little settings call method s e asks is changes right
