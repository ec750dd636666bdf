use Rattle.script_command.proofs.WorldRun.{may_run, ran_at}
use Rattle.script_command.proofs.world.run_quietly.Goals as goal

pub run_lines-requires-clause-may : goal.run_lines-requires-clause-may
run_lines-requires-clause-may c = may_run c.args.script.now.lines c.as_slice-lines.result.now c.args.portal.now c.requires.script c.requires.short c.as_slice-lines.ensures c.requires.starts

pub returns-in-Ok : goal.returns-in-Ok
returns-in-Ok c = ran_at c.args.script.now.lines c.as_slice-lines.result.now c.args.portal.now c.requires.script c.requires.short c.as_slice-lines.ensures c.requires.starts c.run_lines.new.portal c.in-Ok.ensures.ok
