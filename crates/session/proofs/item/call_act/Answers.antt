use Rattle.std.proofs.Common.{sym, ◌∙◌}
use Rattle.session.proofs.item.call_act.Goals as goal

pub returns-in-Portal-clause-may_answer : goal.returns-in-Portal-clause-may_answer
returns-in-Portal-clause-may_answer c = sym c.in-Ok.ensures.asks ∙ c.in-Portal.is
