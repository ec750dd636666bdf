use Rattle.std.proofs.Common.{refl, sym, ◌∙◌}
use Rattle.poll_steps.proofs.ask.stopped.Goals as goal

pub returns-in-Over : goal.returns-in-Over
returns-in-Over c = (c.in-Over.ending, sym c.fed_of.ensures ∙ c.in-Over.is, c.meet.ensures)

pub returns-in_default : goal.returns-in_default
returns-in_default c = (λ e is. c.in_default.not-Over e (c.fed_of.ensures ∙ is), refl)
