use Rattle.session.proofs.session.Session.end.Goals as goal

pub returns-clause-isolated : goal.returns-clause-isolated
returns-clause-isolated g c = c.leave.ensures.isolated _ _ c.requires
