use Rattle.script_command.proofs.LoadRun.{Written}
use Rattle.script_command.proofs.generate.write_lines.Given as goal

abbrev pub invariant-loop-line : goal.invariant-loop-line
invariant-loop-line g l = Written l.lines (g.K.Sink.told l.fn.sink) (g.K.Sink.faults l.fn.sink) l.line-index (g.K.Sink.told l.sink) (g.K.Sink.faults l.sink)
