use Rattle.std.proofs.Common.{List, subst, ◌∙◌}
use Rattle.script_lines.specs.declared.script.ScriptLine.{ScriptLine}
use Rattle.script_replay.specs.Started.{StartsScript}
use Rattle.script_command.proofs.LoadRun.{load_stops, may_run_load, ran_load}
use Rattle.script_replay.proofs.RunLine.{if_err, on_ok}
use Rattle.script_command.proofs.generate.run_load.Goals as goal

pub run_lines-requires-clause-may : goal.run_lines-requires-clause-may
run_lines-requires-clause-may c =
    may_run_load c.args.load.now.requests c.as_slice.result.now c.args.portal.now c.requires.most (c.as_slice.ensures ∙ c.requires.load)
    (subst (λ (x : List ScriptLine). StartsScript x c.args.portal.now) c.requires.load c.requires.starts)

pub returns-clause-ran : goal.returns-clause-ran
returns-clause-ran c =
    on_ok _ _ _ (ran_load c.args.load.now.requests c.as_slice.result.now c.args.portal.now c.requires.most (c.as_slice.ensures ∙ c.requires.load)
    (subst (λ (x : List ScriptLine). StartsScript x c.args.portal.now) c.requires.load c.requires.starts)
    c.run_lines.new.portal c.run_lines.ensures.opening) c.run_lines.ensures.ok

pub returns-clause-err : goal.returns-clause-err
returns-clause-err c =
    if_err _ _ _ (load_stops c.args.load.now.requests c.as_slice.result.now c.args.portal.now c.requires.most (c.as_slice.ensures ∙ c.requires.load)
    (subst (λ (x : List ScriptLine). StartsScript x c.args.portal.now) c.requires.load c.requires.starts)) c.run_lines.ensures.err
