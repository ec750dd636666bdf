use Rattle.script_command.proofs.LoadRun.{generated_as, load_lines_are, load_short, nothing_for_memory}
use Rattle.script_command.proofs.generate.generate.Goals as goal

pub run_and_tell-requires-clause-load : goal.run_and_tell-requires-clause-load
run_and_tell-requires-clause-load g c = load_lines_are c.in-Ok.load c.args.count c.in-Ok.ensures

pub run_and_tell-requires-clause-most : goal.run_and_tell-requires-clause-most
run_and_tell-requires-clause-most g c = load_short c.in-Ok.load c.args.count c.in-Ok.ensures c.requires.most

pub returns-in-Ok-clause-generates : goal.returns-in-Ok-clause-generates
returns-in-Ok-clause-generates g c = generated_as c.in-Ok.load c.args.count _ _ _ c.in-Ok.ensures c.run_and_tell.ensures.generates

pub returns-in-Err-clause-generates : goal.returns-in-Err-clause-generates
returns-in-Err-clause-generates g c = nothing_for_memory c.args.count _
