use Rattle.std.proofs.Common.{◌∙◌, arith}
use Rattle.dbus_types.specs.Reading.{type_at}
use Rattle.dbus_types.proofs.CheckSteps.{list_step, list_fails, list_end}
use Rattle.dbus_types.proofs.signature.check_list.Goals as goal

pub loop-next-preserved : goal.loop-next-preserved
loop-next-preserved c =
    let i = c.loop-next.invariant.rest in
    let s = list_step (type_at 32 32) c.args.text.now c.loop-next.next i.0 c.in-Ok.end c.loop-next-test.true c.in-Ok.ensures.within.0 c.in-Ok.ensures.read i.1 in
    record { within = c.in-Ok.ensures.within.1; rest = (s.0, s.1, i.2 ∙ s.2) }

pub returns-in-Err : goal.returns-in-Err
returns-in-Err c =
    let i = c.loop-next.invariant.rest in
    i.2 ∙ list_fails (type_at 32 32) c.args.text.now c.loop-next.next i.0 c.in-Err.error c.loop-next-test.true i.1 c.in-Err.ensures.read

pub returns : goal.returns
returns c =
    let i = c.loop-next.invariant.rest in
    i.2 ∙ list_end (type_at 32 32) c.args.text.now c.loop-next.next i.0 (omega arith)
