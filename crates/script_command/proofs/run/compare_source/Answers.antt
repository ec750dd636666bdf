use Rattle.script_command.proofs.ComparedText.{ran}
use Rattle.script_command.proofs.run.compare_source.Goals as goal

pub returns-in-Ok-clause-ran : goal.returns-in-Ok-clause-ran
returns-in-Ok-clause-ran g c = ran _ _ _ _ _ _ _ c.in-Ok.ensures.ok (rw (c.as_slice.ensures) at c.worlds.ensures.compares)
