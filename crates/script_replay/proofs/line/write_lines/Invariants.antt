use Rattle.std.proofs.Common.{◌≡◌, take}
use Rattle.portal_base.specs.Outside.{onto}
use Rattle.script_replay.proofs.line.write_lines.Given as goal

abbrev pub invariant-loop-line : goal.invariant-loop-line
invariant-loop-line g l = record {
  told : g.K.Sink.told l.sink ≡ onto (g.K.Sink.told l.fn.sink) (take l.line-index l.lines);
  faults : g.K.Sink.faults l.sink ≡ g.K.Sink.faults l.fn.sink;
}
