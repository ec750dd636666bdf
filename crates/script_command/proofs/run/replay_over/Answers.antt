use Rattle.script_command.proofs.ReplayScript.{itself, may_replay, replay_stops, replays_all}
use Rattle.script_lines.specs.Lines.{text_of}
use Rattle.script_command.proofs.run.replay_over.Goals as goal

pub run_lines-requires-clause-may : goal.run_lines-requires-clause-may
run_lines-requires-clause-may g c =
    let lines = c.args.script.now.lines in
    may_replay (text_of lines) lines _ _ c.requires.short (itself lines c.requires.script) c.as_slice.ensures c.requires.starts

pub returns-clause-replays : goal.returns-clause-replays
returns-clause-replays g c =
    let lines = c.args.script.now.lines in
    replay_stops (text_of lines) lines _ _ c.requires.short (itself lines c.requires.script) c.as_slice.ensures c.requires.starts _ _ _ _ c.in-Err.status c.in-Err.ensures.err

pub returns-in-Ok-run_lines-clause-replays : goal.returns-in-Ok-run_lines-clause-replays
returns-in-Ok-run_lines-clause-replays g c =
    let lines = c.args.script.now.lines in
    replays_all (text_of lines) lines _ _ c.requires.short (itself lines c.requires.script) c.as_slice.ensures c.requires.starts _ _ _ c.in-Ok-run_lines.ensures.ok
