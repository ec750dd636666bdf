use Rattle.std.proofs.Common.{◌∙◌, length, drop, sym, subst, arith, refl}
use Rattle.dbus_types.specs.Reading.{Fails, type_at}
use Rattle.dbus_types.proofs.ReadingSteps.{members_go, more_close, more_step, more_fails, more_end}
use Rattle.dbus_types.proofs.signature.+read.Goals as goal

pub read_members-loop-next-init : goal.read_members-loop-next-init
read_members-loop-next-init t c =
    record { from = c.in_ok-first.ensures.within.0; within = c.in_ok-first.ensures.within.1; rest = (length (drop c.in_ok-first.next c.args.text.now), omega arith, members_go (type_at c.args.arrays c.args.brackets) c.args.text.now c.args.at c.in_ok-first.first c.in_ok-first.next c.in_ok-first.ensures.read ∙ rw (c.in_ok-push.ensures.ok, c.new-members.ensures) refl) }

pub read_members-returns-then-text-next-eq41-clause-read : goal.read_members-returns-then-text-next-eq41-clause-read
read_members-returns-then-text-next-eq41-clause-read t c =
    let i = c.loop-next.invariant.rest in
    i.2 ∙ more_close (type_at c.args.arrays c.args.brackets) c.args.text.now c.loop-next.members c.loop-next.next i.0 c.loop-next-test.true c.if-text-next-eq41.true i.1

pub read_members-loop-next-preserved : goal.read_members-loop-next-preserved
read_members-loop-next-preserved t c =
    let i = c.loop-next.invariant.rest in
    let s = more_step (type_at c.args.arrays c.args.brackets) c.args.text.now c.loop-next.members c.loop-next.next i.0 c.in-Ok.kind c.in-Ok.end c.loop-next-test.true c.in-Ok.ensures.within.0 c.if-text-next-eq41.false c.in-Ok.ensures.read i.1 in
    record { from = omega (arith, c.in-Ok.ensures.within.0, c.loop-next.invariant.from); within = c.in-Ok.ensures.within.1; rest = (s.0, s.1, i.2 ∙ (s.2 ∙ rw c.in_ok-push-in-Ok.ensures.ok refl)) }

pub read_members-returns-in-Err-clause-read : goal.read_members-returns-in-Err-clause-read
read_members-returns-in-Err-clause-read t c =
    let i = c.loop-next.invariant.rest in
    subst (Fails c.in-Err.error) (sym i.2) (more_fails (type_at c.args.arrays c.args.brackets) c.args.text.now c.loop-next.members c.loop-next.next i.0 c.in-Err.error c.loop-next-test.true c.if-text-next-eq41.false i.1 c.in-Err.ensures.read)

pub read_members-returns-clause-read : goal.read_members-returns-clause-read
read_members-returns-clause-read t c =
    let i = c.loop-next.invariant.rest in
    i.2 ∙ more_end (type_at c.args.arrays c.args.brackets) c.args.text.now c.loop-next.members c.loop-next.next i.0 (omega arith)
