use Rattle.std.proofs.Common.{◌≡◌, drop, take}
use Rattle.portal_steps.specs.Story.{state_first}
use Rattle.script_replay.specs.Steps.{MayPlay}
use Rattle.script_replay.proofs.RunLines.{Played}
use Rattle.script_replay.proofs.replay.run_lines.Given as goal

abbrev pub invariant-loop-line : goal.invariant-loop-line
invariant-loop-line g l = record {
  may : MayPlay (take l.line-index l.lines) l.portal l.connections (drop l.line-index l.lines);
  played : Played l.fn.portal l.lines (g.K.Sink.told l.fn.sink) (g.K.Sink.told l.sink) l.line-index l.portal l.connections;
  faults : g.K.Sink.faults l.sink ≡ g.K.Sink.faults l.fn.sink;
  opening : state_first l.portal.story ≡ state_first l.fn.portal.story;
}
