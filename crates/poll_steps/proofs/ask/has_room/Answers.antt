use Rattle.std.proofs.Common.{sym, ◌∙◌}
use Rattle.poll_steps.proofs.Acting.{when_ok}
use Rattle.poll_steps.proofs.ask.has_room.Goals as goal

pub returns-clause-taken : goal.returns-clause-taken
returns-clause-taken c = λ yes. when_ok c.take-taken.result _ (sym c.is_ok.ensures.value ∙ yes) c.take-taken.ensures
