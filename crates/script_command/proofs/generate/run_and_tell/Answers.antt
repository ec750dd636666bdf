use Rattle.script_command.proofs.LoadRun.{load_is_script, nothing_for_memory}
use Rattle.script_command.proofs.generate.run_and_tell.Goals as goal

pub returns-in-Err-clause-generates : goal.returns-in-Err-clause-generates
returns-in-Err-clause-generates g c = nothing_for_memory c.args.load.now.requests _

pub start-requires : goal.start-requires
start-requires g c = load_is_script c.args.load.now.script.lines c.args.load.now.requests c.requires.load
