use Rattle.std.proofs.Common.{Some, refl, sym, subst, ◌∙◌, arith}
use Rattle.dbus_basic.specs.Reading.{Fails}
use Rattle.dbus_marshal.specs.Reads.{field_at}
use Rattle.dbus_marshal.proofs.KeptFields.{sieve_step, sieve_skip, sieve_end, sieve_fails}
use Rattle.dbus_marshal.proofs.header.read_fields.Goals as goal

pub returns-in-Err : goal.returns-in-Err
returns-in-Err c =
    let i = c.loop-next.invariant.rest in
    record { read = subst (Fails c.in-Err.error) (sym i.2) (sieve_fails c.args.highest (field_at c.args.endian) c.args.bytes.now c.loop-next.fields c.loop-next.next i.0 c.in-Err.error c.loop-next-test.true i.1 c.in-Err.ensures.read) }

pub returns : goal.returns
returns c =
    let i = c.loop-next.invariant.rest in
    record { read = i.2 ∙ sieve_end c.args.highest (field_at c.args.endian) c.args.bytes.now c.loop-next.fields c.loop-next.next i.0 (omega arith) }

pub loop-next-preserved-in_ok-push-in-Ok : goal.loop-next-preserved-in_ok-push-in-Ok
loop-next-preserved-in_ok-push-in-Ok c =
    let i = c.loop-next.invariant.rest in
    let s = sieve_step c.args.highest (field_at c.args.endian) c.args.bytes.now c.loop-next.fields c.loop-next.next i.0 (Some c.in-Some.field) c.in-Ok.end c.loop-next-test.true c.in-Ok.ensures.within.0 (rw (← c.in-Some.is) c.in-Ok.ensures.read) i.1 in
    record { within = c.in-Ok.ensures.within.1; rest = (s.0, s.1, i.2 ∙ (s.2 ∙ rw c.in_ok-push-in-Ok.ensures.ok refl)) }

pub loop-next-preserved : goal.loop-next-preserved
loop-next-preserved c =
    let i = c.loop-next.invariant.rest in
    let s = sieve_skip c.args.highest (field_at c.args.endian) c.args.bytes.now c.loop-next.fields c.loop-next.next i.0 c.in-Ok.field c.in-Ok.end c.in_default.not-Some c.loop-next-test.true c.in-Ok.ensures.within.0 c.in-Ok.ensures.read i.1 in
    record { within = c.in-Ok.ensures.within.1; rest = (s.0, s.1, i.2 ∙ s.2) }
