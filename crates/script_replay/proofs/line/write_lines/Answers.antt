use Rattle.std.proofs.Common.{◌<◌, ◌∙◌, arith, length}
use Rattle.script_replay.proofs.RunLine.{line_broke, line_written}
use Rattle.script_replay.proofs.line.write_lines.Goals as goal

pub returns-in-Err-clause-err : goal.returns-in-Err-clause-err
returns-in-Err-clause-err g c =
    let inside : c.loop-line.line-index < length c.args.lines.now = omega arith in
    line_broke c.args.lines.now c.loop-line.line-index c.line-item.result inside c.line-item.is _ _ _ _ _ _ _
    c.as_slice.ensures c.loop-line.invariant.told c.loop-line.invariant.faults c.in-Err.error c.in-Err.ensures.err

pub loop-line-preserved : goal.loop-line-preserved
loop-line-preserved g c =
    let inside : c.loop-line.line-index < length c.args.lines.now = omega arith in
    record {
      told = line_written c.args.lines.now c.loop-line.line-index c.line-item.result inside c.line-item.is _ _ _ _ c.as_slice.ensures c.loop-line.invariant.told c.in-Ok.ensures.ok;
      faults = c.in-Ok.ensures.counts ∙ c.loop-line.invariant.faults;
    }
