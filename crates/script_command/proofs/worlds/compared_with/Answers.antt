use Rattle.app_trace.specs.Told.{trace_told}
use Rattle.script_command.proofs.WorldsCompared.{are_worlds}
use Rattle.script_command.proofs.worlds.compared_with.Goals as goal

pub returns : goal.returns
returns c =
    let first = c.args.scripts.now.first.lines in
    let second = c.args.scripts.now.second.lines in
    are_worlds c.args.app.now first second (trace_told c.args.first.now) (trace_told c.in_ok-second.second) c.requires.trace c.in_ok-second.ensures c.same_trace-found.result c.same_trace-found.ensures.matches
