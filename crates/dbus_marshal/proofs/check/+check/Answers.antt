use Rattle.std.proofs.Common.{◌≡◌, sym, ap, subst, ◌∙◌, arith, length, drop, take, ltb, false}
use Rattle.std.proofs.lemmas.Bool.{le-ltb, eqb-false}
use Rattle.std.proofs.lemmas.List.{drop-take}
use Rattle.std.proofs.lemmas.Result.{err_from_is_err_and}
use Rattle.dbus_basic.specs.Reading.{Fails, after, place}
use Rattle.dbus_marshal.specs.Reads.{reads}
use Rattle.dbus_marshal.proofs.Depths.{reads_array, reads_struct, reads_entry}
use Rattle.dbus_marshal.proofs.Verdicts.{members_past, members_past_end, members_past_fails, elements_past, elements_past_end, elements_past_fails, bytes_checked, array_past, array_past_fails, struct_past, entry_past, entry_past_fails, variant_past}
use Rattle.dbus_marshal.proofs.check.+check.Goals as goal

pub check_elements-loop-next-preserved : goal.check_elements-loop-next-preserved
check_elements-loop-next-preserved t c =
    let i = c.loop-next.invariant.rest in
    let s = elements_past (reads c.args.depth c.args.endian c.args.element.now) c.args.bytes.now c.loop-next.next i.0 c.in-Ok.end c.loop-next-test.true c.in-Ok.ensures.within.0 c.in-Ok.ensures.read i.1 in
    record { within = c.in-Ok.ensures.within.1; rest = (s.0, s.1, i.2 ∙ s.2) }

pub check_elements-returns-in-Err : goal.check_elements-returns-in-Err
check_elements-returns-in-Err t c =
    let i = c.loop-next.invariant.rest in
    record { read = subst (Fails c.in-Err.error) (sym i.2) (elements_past_fails (reads c.args.depth c.args.endian c.args.element.now) c.args.bytes.now c.loop-next.next i.0 c.in-Err.error c.loop-next-test.true i.1 c.in-Err.ensures.read) }

pub check_elements-returns : goal.check_elements-returns
check_elements-returns t c =
    let i = c.loop-next.invariant.rest in
    record { read = i.2 ∙ elements_past_end (reads c.args.depth c.args.endian c.args.element.now) c.args.bytes.now c.loop-next.next i.0 (omega arith) }

pub check_elements-returns-then-is_byte : goal.check_elements-returns-then-is_byte
check_elements-returns-then-is_byte t c =
    let body = drop c.args.at c.args.bytes.now in
    record { read = bytes_checked (length body) c.args.depth c.args.endian c.args.element.now c.args.at body (λ z. omega (arith, z, c.if-depth-gt0.true)) (c.is_byte.ensures.0 c.if-is_byte.true) (omega arith) }

pub check_members-returns-in-Err-clause-read : goal.check_members-returns-in-Err-clause-read
check_members-returns-in-Err-clause-read t c =
    subst (Fails c.in-Err.error) (sym c.loop-kind.invariant.rest) (members_past_fails (reads c.args.depth c.args.endian) c.args.bytes.now c.args.kinds.now c.loop-kind.kind-index c.loop-kind.next c.kind-item.result c.in-Err.error c.loop-kind-test.true c.kind-item.is c.in-Err.ensures.read)

pub check_members-loop-kind-preserved : goal.check_members-loop-kind-preserved
check_members-loop-kind-preserved t c = record {
  least = omega (arith, c.loop-kind.invariant.least, c.in-Ok.ensures.within.0);
  within = c.in-Ok.ensures.within.1;
  rest = c.loop-kind.invariant.rest ∙ members_past (reads c.args.depth c.args.endian) c.args.bytes.now c.args.kinds.now c.loop-kind.kind-index c.loop-kind.next c.kind-item.result c.in-Ok.end c.loop-kind-test.true c.kind-item.is c.in-Ok.ensures.read;
}

pub check_members-returns-clause-read : goal.check_members-returns-clause-read
check_members-returns-clause-read t c = c.loop-kind.invariant.rest ∙ members_past_end (reads c.args.depth c.args.endian) c.args.bytes.now c.args.kinds.now c.loop-kind.kind-index c.loop-kind.next (omega arith)

pub check_within-returns-in-Array-clause-read : goal.check_within-returns-in-Array-clause-read
check_within-returns-in-Array-clause-read t c = rw (reads_array c.args.depth c.args.endian c.args.kind.now c.in-Array.element c.args.at (drop c.args.at c.args.bytes.now) c.if-depth-eq0.false c.in-Array.is, ← c.get.ensures) c.check_array.ensures.read

pub check_within-returns-in-Struct-clause-read : goal.check_within-returns-in-Struct-clause-read
check_within-returns-in-Struct-clause-read t c = rw (reads_struct c.args.depth c.args.endian c.args.kind.now c.in-Struct.kinds c.args.at (drop c.args.at c.args.bytes.now) c.if-depth-eq0.false c.in-Struct.is, ← c.as_slice.ensures) c.check_struct.ensures.read

pub check_within-returns-in-Variant-clause-read : goal.check_within-returns-in-Variant-clause-read
check_within-returns-in-Variant-clause-read t c = rw (variant_past c.args.depth c.args.endian c.args.kind.now c.args.at (drop c.args.at c.args.bytes.now) c.if-depth-eq0.false c.in-Variant.is) c.check_inside.ensures.read

pub check_within-returns-in-DictEntry-clause-read : goal.check_within-returns-in-DictEntry-clause-read
check_within-returns-in-DictEntry-clause-read t c = rw (reads_entry c.args.depth c.args.endian c.args.kind.now c.in-DictEntry.key c.in-DictEntry.value c.args.at (drop c.args.at c.args.bytes.now) c.if-depth-eq0.false c.in-DictEntry.is, ← c.get-in-DictEntry.ensures, ← c.get-in-DictEntry-2.ensures) c.check_entry.ensures.read

pub check_array-returns-in-Ok-clause-read : goal.check_array-returns-in-Ok-clause-read
check_array-returns-in-Ok-clause-read t c =
    let bytes = c.args.bytes.now in
    let short : ltb 67_108_864 c.in_ok-count.count ≡ false = le-ltb _ _ (omega arith) in
    let window : drop c.in_ok-from.from (take c.in_ok-_body.end bytes) ≡ c.in_ok-_body._body.now = rw (c.in_ok-_body.ensures.within.0, c.in_ok-_body.ensures.body) (drop-take c.in_ok-from.from c.in_ok-count.count bytes) in
    array_past (reads c.args.depth c.args.endian) c.args.endian c.args.element.now c.args.at (drop c.args.at bytes)
    (place bytes c.in_ok-start.start) (after bytes (c.in_ok-count.count, c.in_ok-count.begins)) (place bytes c.in_ok-from.from) (after bytes (c.in_ok-_body._body.now, c.in_ok-_body.end))
    c.in_ok-start.ensures.read c.in_ok-count.ensures.read short (rw (← c.alignment_of.ensures.known) c.in_ok-from.ensures.read) c.in_ok-_body.ensures.read (rw (← window) c.in-Ok.ensures.read)

pub check_array-returns-in-Err-clause-read : goal.check_array-returns-in-Err-clause-read
check_array-returns-in-Err-clause-read t c =
    let bytes = c.args.bytes.now in
    let short : ltb 67_108_864 c.in_ok-count.count ≡ false = le-ltb _ _ (omega arith) in
    let window : drop c.in_ok-from.from (take c.in_ok-_body.end bytes) ≡ c.in_ok-_body._body.now = rw (c.in_ok-_body.ensures.within.0, c.in_ok-_body.ensures.body) (drop-take c.in_ok-from.from c.in_ok-count.count bytes) in
    rw c.array_error.ensures (array_past_fails (reads c.args.depth c.args.endian) c.args.endian c.args.element.now c.args.at (drop c.args.at bytes)
    (place bytes c.in_ok-start.start) (after bytes (c.in_ok-count.count, c.in_ok-count.begins)) (place bytes c.in_ok-from.from) (after bytes (c.in_ok-_body._body.now, c.in_ok-_body.end))
    c.in_ok-start.ensures.read c.in_ok-count.ensures.read short (rw (← c.alignment_of.ensures.known) c.in_ok-from.ensures.read) c.in_ok-_body.ensures.read c.in-Err.error (rw (← window) c.in-Err.ensures.read))

pub check_struct-returns-clause-read : goal.check_struct-returns-clause-read
check_struct-returns-clause-read t c = rw (struct_past (reads c.args.depth c.args.endian) c.args.endian c.args.kinds.now c.args.at (drop c.args.at c.args.bytes.now) (place c.args.bytes.now c.in_ok-start.start) (λ z. eqb-false (length c.args.kinds.now) 0 (sym c.is_empty.ensures ∙ c.if-is_empty.false) (ap length z)) c.in_ok-start.ensures.read) c.check_members.ensures.read

pub check_entry-returns-in_err-middle-clause-read : goal.check_entry-returns-in_err-middle-clause-read
check_entry-returns-in_err-middle-clause-read t c =
    let p = err_from_is_err_and c.from_residual-in_err-middle.result c.from_residual-in_err-middle.ensures.1 in
    rw (p.1, p.2) (entry_past_fails (reads c.args.depth c.args.endian) c.args.endian c.args.key.now c.args.value.now c.args.at (drop c.args.at c.args.bytes.now) (place c.args.bytes.now c.in_ok-start.start) c.in_err-middle.field-0.0 c.in_ok-start.ensures.read c.in_err-middle.ensures.read)

pub check_entry-returns-clause-read : goal.check_entry-returns-clause-read
check_entry-returns-clause-read t c = rw (entry_past (reads c.args.depth c.args.endian) c.args.endian c.args.key.now c.args.value.now c.args.at (drop c.args.at c.args.bytes.now) (place c.args.bytes.now c.in_ok-start.start) (place c.args.bytes.now c.in_ok-middle.middle) c.in_ok-start.ensures.read c.in_ok-middle.ensures.read) c.check_within-2.ensures.read
