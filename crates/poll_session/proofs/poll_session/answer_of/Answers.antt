use Rattle.poll_session.proofs.poll_session.answer_of.Goals as goal

pub returns-in_default : goal.returns-in_default
returns-in_default c = c.in_default.not-Over
