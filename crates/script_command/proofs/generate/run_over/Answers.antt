use Rattle.script_command.proofs.LoadRun.{nothing_risen, nothing_said}
use Rattle.script_command.proofs.generate.run_over.Goals as goal

pub returns-in-Err-clause-generates : goal.returns-in-Err-clause-generates
returns-in-Err-clause-generates g c = nothing_said _ _ c.in-Err.status c.in-Err.ensures.err

pub returns-in-Err-clause-risen : goal.returns-in-Err-clause-risen
returns-in-Err-clause-risen g c = nothing_risen _ c.in-Err.status c.in-Err.ensures.err
