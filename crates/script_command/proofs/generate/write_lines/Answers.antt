use Rattle.std.proofs.Common.{◌<◌, length, arith}
use Rattle.script_command.proofs.LoadRun.{all_written, none_written, one_failed, one_written}
use Rattle.script_command.proofs.generate.write_lines.Goals as goal

pub loop-line-init : goal.loop-line-init
loop-line-init g c = none_written _ _ _

pub loop-line-preserved : goal.loop-line-preserved
loop-line-preserved g c =
    let inside : c.loop-line.line-index < length c.args.lines.now = omega arith in
    one_written c.args.lines.now _ _ c.loop-line.line-index _ _ c.loop-line.invariant c.line-item.result inside c.line-item.is c.as_slice.result.now c.as_slice.ensures _ _ c.in-Done.ensures.writes c.in-Done.ensures.counts

pub returns-in-Failed : goal.returns-in-Failed
returns-in-Failed g c =
    let inside : c.loop-line.line-index < length c.args.lines.now = omega arith in
    one_failed c.args.lines.now _ _ c.loop-line.line-index _ _ c.loop-line.invariant c.line-item.result inside c.line-item.is c.as_slice.result.now c.as_slice.ensures _ _ c.in-Failed.ensures.writes c.in-Failed.ensures.counts

pub returns : goal.returns
returns g c = all_written _ _ _ c.loop-line.line-index _ _ (omega arith) c.loop-line.invariant
