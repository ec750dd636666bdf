use Rattle.std.proofs.Common.{◌∙◌, arith}
use Rattle.dbus_types.specs.Reading.{type_at}
use Rattle.dbus_types.proofs.CheckSteps.{more_close, more_step, more_fails, more_end}
use Rattle.dbus_types.proofs.signature.+check.Goals as goal

pub check_members-returns-then-text-next-eq41-clause-read : goal.check_members-returns-then-text-next-eq41-clause-read
check_members-returns-then-text-next-eq41-clause-read t c =
    let i = c.loop-next.invariant.rest in
    i.2 ∙ more_close (type_at c.args.arrays c.args.brackets) c.args.text.now c.loop-next.next i.0 c.loop-next-test.true c.if-text-next-eq41.true i.1

pub check_members-loop-next-preserved : goal.check_members-loop-next-preserved
check_members-loop-next-preserved t c =
    let i = c.loop-next.invariant.rest in
    let s = more_step (type_at c.args.arrays c.args.brackets) c.args.text.now c.loop-next.next i.0 c.in-Ok.end c.loop-next-test.true c.in-Ok.ensures.within.0 c.if-text-next-eq41.false c.in-Ok.ensures.read i.1 in
    record { from = omega (arith, c.in-Ok.ensures.within.0, c.loop-next.invariant.from); within = c.in-Ok.ensures.within.1; rest = (s.0, s.1, i.2 ∙ s.2) }

pub check_members-returns-in-Err-clause-read : goal.check_members-returns-in-Err-clause-read
check_members-returns-in-Err-clause-read t c =
    let i = c.loop-next.invariant.rest in
    i.2 ∙ more_fails (type_at c.args.arrays c.args.brackets) c.args.text.now c.loop-next.next i.0 c.in-Err.error c.loop-next-test.true c.if-text-next-eq41.false i.1 c.in-Err.ensures.read

pub check_members-returns-clause-read : goal.check_members-returns-clause-read
check_members-returns-clause-read t c =
    let i = c.loop-next.invariant.rest in
    i.2 ∙ more_end (type_at c.args.arrays c.args.brackets) c.args.text.now c.loop-next.next i.0 (omega arith)
