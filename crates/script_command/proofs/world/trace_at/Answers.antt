use Rattle.script_command.proofs.WorldRun.{legal, started, traced_ok, within}
use Rattle.script_command.proofs.world.trace_at.Goals as goal

pub trace_of-trace-requires-clause-legal : goal.trace_of-trace-requires-clause-legal
trace_of-trace-requires-clause-legal c = legal c.args.script.now.lines c.args.portal.now c.in_ok-opening.opening c.history.result.now.entries c.requires.script c.requires.ran c.in_ok-opening.ensures c.history.ensures

pub trace_of-trace-requires-clause-within : goal.trace_of-trace-requires-clause-within
trace_of-trace-requires-clause-within c = within c.args.script.now.lines c.args.portal.now c.in_ok-opening.opening c.history.result.now.entries c.requires.script c.requires.ran c.in_ok-opening.ensures c.history.ensures

pub trace_of-trace-requires-clause-started : goal.trace_of-trace-requires-clause-started
trace_of-trace-requires-clause-started c = started c.args.script.now.lines c.args.portal.now c.in_ok-opening.opening c.history.result.now.entries c.requires.script c.requires.ran c.in_ok-opening.ensures c.history.ensures

pub returns : goal.returns
returns c = traced_ok c.args.script.now.lines c.args.portal.now c.in_ok-opening.opening c.history.result.now.entries c.requires.script c.requires.ran c.in_ok-opening.ensures c.history.ensures c.args.app.now c.trace_of-trace.result c.trace_of-trace.ensures
