use Rattle.std.proofs.Common.{◌<◌, [], length, sym, ◌∙◌, subst, arith}
use Rattle.script_replay.specs.declared.status.Status.{Status}
use Rattle.script_replay.specs.Plays.{PlayStops}
use Rattle.script_replay.specs.Steps.{scene}
use Rattle.script_replay.proofs.RunLines.{may_go_on, may_run, play_stops, played_on}
use Rattle.script_replay.proofs.replay.run_lines.Goals as goal

pub run_line-requires-clause-may : goal.run_line-requires-clause-may
run_line-requires-clause-may g c =
    let inside : c.loop-line.line-index < length c.args.lines.now = omega arith in
    may_run c.args.lines.now c.loop-line.line-index c.loop-line.portal c.loop-line.connections c.line-item.result inside c.line-item.is c.loop-line.invariant.may

pub returns-in-Err-clause-err : goal.returns-in-Err-clause-err
returns-in-Err-clause-err g c =
    let inside : c.loop-line.line-index < length c.args.lines.now = omega arith in
    subst (λ (s : Status). PlayStops (scene c.args.portal.now []) c.args.lines.now (g.K.Sink.told c.args.sink.now) (g.K.Sink.faults c.args.sink.now) (g.K.Sink.told c.run_line.new.sink) (g.K.Sink.faults c.run_line.new.sink) s)
    (sym c.status_of.ensures)
    (play_stops _ _ _ _ _ _ _ _ c.loop-line.line-index c.loop-line.portal c.loop-line.connections c.line-item.result inside c.line-item.is c.loop-line.invariant.faults c.loop-line.invariant.played c.in-Err.error c.in-Err.ensures.err)

pub loop-line-preserved : goal.loop-line-preserved
loop-line-preserved g c =
    let inside : c.loop-line.line-index < length c.args.lines.now = omega arith in
    record {
      may = may_go_on c.args.lines.now c.loop-line.line-index c.loop-line.portal c.run_line.new.portal c.loop-line.connections c.run_line.new.connections c.line-item.result _ _ inside c.line-item.is c.in-Ok.ensures.opening c.loop-line.invariant.may c.in-Ok.ensures.ok;
      played = played_on _ _ _ _ _ c.loop-line.line-index c.loop-line.portal c.run_line.new.portal c.loop-line.connections c.run_line.new.connections c.line-item.result inside c.line-item.is c.loop-line.invariant.played c.in-Ok.ensures.ok;
      faults = c.in-Ok.ensures.counts ∙ c.loop-line.invariant.faults;
      opening = c.run_line.ensures.opening ∙ c.loop-line.invariant.opening;
    }
