use Rattle.std.proofs.Common.{◌≡◌, refl, sym, ap, subst, ◌∙◌, ◌-◌, arith, length, drop, take, ltb, false, Ok}
use Rattle.std.proofs.lemmas.Bool.{le-ltb, true≢false}
use Rattle.std.proofs.lemmas.List.{drop-take, length-drop, take_all}
use Rattle.dbus_types.specs.declared.types.Value.TheVariants as V
use Rattle.dbus_types.specs.declared.types.WireType.{WireType}
use Rattle.dbus_types.specs.declared.types.WireType.TheVariants as W
use Rattle.dbus_basic.specs.Reading.{Fails, after, place}
use Rattle.dbus_marshal.specs.Reads.{reads, elements, arrayed}
use Rattle.dbus_marshal.proofs.Loops.{members_step, members_end, members_fails, elements_step, elements_end, elements_fails, fails_as, array_is, array_fails, array_read, no_elements}
use Rattle.dbus_marshal.proofs.Bytes.{items_arrayed, packed_fails, packed_read}
use Rattle.std.proofs.lemmas.Result.{err_from_is_err_and}
use Rattle.dbus_marshal.proofs.HeaderFields.{variant_gives, variant_fails}
use Rattle.dbus_marshal.proofs.Depths.{reads_array, reads_struct, reads_entry}
use Rattle.dbus_marshal.proofs.read.+read.Goals as goal

pub read_array-returns-in-Ok-clause-read : goal.read_array-returns-in-Ok-clause-read
read_array-returns-in-Ok-clause-read t c =
    let bytes = c.args.bytes.now in
    let short : ltb 67_108_864 c.in_ok-count.count ≡ false = le-ltb _ _ (omega arith) in
    let whole = array_is (reads c.args.depth c.args.endian) c.args.endian c.get-element.result.now c.args.at (drop c.args.at bytes)
    (place bytes c.in_ok-start.start) (after bytes (c.in_ok-count.count, c.in_ok-count.begins)) (place bytes c.in_ok-from.from) (after bytes (c.in_ok-body.body.now, c.in_ok-body.end))
    c.in_ok-start.ensures.read c.in_ok-count.ensures.read short (rw (← c.alignment_of.ensures.known) c.in_ok-from.ensures.read) c.in_ok-body.ensures.read in
    let window : drop c.in_ok-from.from (take c.in_ok-body.end bytes) ≡ c.in_ok-body.body.now = rw (c.in_ok-body.ensures.within.0, c.in_ok-body.ensures.body) (drop-take c.in_ok-from.from c.in_ok-count.count bytes) in
    let items = elements (length c.in_ok-body.body.now) (reads c.args.depth c.args.endian c.get-element.result.now) c.in_ok-from.from c.in_ok-body.body.now in
    let read : arrayed c.get-element.result.now (elements (length c.in_ok-body.body.now) (reads c.args.depth c.args.endian c.get-element.result.now) c.in_ok-from.from c.in_ok-body.body.now) ≡ Ok c.in-Ok.array =
    rw (← window, c.get-element.ensures) c.in-Ok.ensures in
    rw (← c.get-element.ensures) (whole ∙ array_read c.get-element.result.now items c.in-Ok.array c.in_ok-body.end (drop c.in_ok-body.end bytes) read)

pub read_array-returns-in-Err-clause-read : goal.read_array-returns-in-Err-clause-read
read_array-returns-in-Err-clause-read t c =
    let bytes = c.args.bytes.now in
    let short : ltb 67_108_864 c.in_ok-count.count ≡ false = le-ltb _ _ (omega arith) in
    let whole = array_is (reads c.args.depth c.args.endian) c.args.endian c.get-element.result.now c.args.at (drop c.args.at bytes)
    (place bytes c.in_ok-start.start) (after bytes (c.in_ok-count.count, c.in_ok-count.begins)) (place bytes c.in_ok-from.from) (after bytes (c.in_ok-body.body.now, c.in_ok-body.end))
    c.in_ok-start.ensures.read c.in_ok-count.ensures.read short (rw (← c.alignment_of.ensures.known) c.in_ok-from.ensures.read) c.in_ok-body.ensures.read in
    let window : drop c.in_ok-from.from (take c.in_ok-body.end bytes) ≡ c.in_ok-body.body.now = rw (c.in_ok-body.ensures.within.0, c.in_ok-body.ensures.body) (drop-take c.in_ok-from.from c.in_ok-count.count bytes) in
    let inner = drop c.in_ok-from.from (take c.in_ok-body.end bytes) in
    let fails = no_elements c.args.shared.now (elements (length inner) (reads c.args.depth c.args.endian c.args.shared.now) c.in_ok-from.from inner) c.in-Err.error c.in-Err.ensures in
    let lent = subst (λ (u : WireType). Fails c.in-Err.error (elements (length inner) (reads c.args.depth c.args.endian u) c.in_ok-from.from inner)) (sym c.get-element.ensures) fails in
    rw (← c.get-element.ensures, whole, c.array_error.ensures, ← window) (array_fails c.in-Err.error _ _ lent)

pub read_items-returns-in_err-packed : goal.read_items-returns-in_err-packed
read_items-returns-in_err-packed t c =
    let p = err_from_is_err_and c.from_residual.result c.from_residual.ensures.1 in
    let body = drop c.args.at c.args.bytes.now in
    let whole = take_all (length c.args.bytes.now - c.args.at) body (omega (arith, length-drop c.args.at c.args.bytes.now)) in
    let byte = sym c.get-element.ensures ∙ c.is_byte.ensures.0 c.if-is_byte.true in
    rw (p.1, p.2) (packed_fails c.args.depth c.args.endian c.args.shared.now c.args.at _ body byte whole c.in_err-packed.field-0.0 (c.in_err-packed.ensures c.args.endian))

pub read_items-returns-then-is_byte : goal.read_items-returns-then-is_byte
read_items-returns-then-is_byte t c =
    let body = drop c.args.at c.args.bytes.now in
    let whole = take_all (length c.args.bytes.now - c.args.at) body (omega (arith, length-drop c.args.at c.args.bytes.now)) in
    let byte = sym c.get-element.ensures ∙ c.is_byte.ensures.0 c.if-is_byte.true in
    packed_read c.args.depth c.args.endian c.args.shared.now c.args.at _ body byte whole c.in_ok-packed.packed (c.in_ok-packed.ensures c.args.endian)

pub read_items-returns-in_err-items : goal.read_items-returns-in_err-items
read_items-returns-in_err-items t c =
    let p = err_from_is_err_and c.from_residual-in_err-items.result c.from_residual-in_err-items.ensures.1 in
    let body = drop c.args.at c.args.bytes.now in
    let items = elements (length body) (reads c.args.depth c.args.endian c.args.shared.now) c.args.at body in
    let fails = subst (λ (u : WireType). Fails c.in_err-items.field-0.0 (elements (length body) (reads c.args.depth c.args.endian u) c.args.at body)) c.get-element.ensures c.in_err-items.ensures.read in
    rw (p.1, p.2) (fails_as c.in_err-items.field-0.0 items (arrayed c.args.shared.now) (λ d. refl) fails)

pub read_items-returns : goal.read_items-returns
read_items-returns t c =
    let other : c.args.shared.now ≡ W.Byte → ⊥ = λ e. true≢false (sym (c.is_byte.ensures.1 (c.get-element.ensures ∙ e)) ∙ c.if-is_byte.false) in
    let body = drop c.args.at c.args.bytes.now in
    let items = elements (length body) (reads c.args.depth c.args.endian c.args.shared.now) c.args.at body in
    let read = subst (λ (u : WireType). elements (length body) (reads c.args.depth c.args.endian u) c.args.at body ≡ Ok c.in_ok-items.items) c.get-element.ensures c.in_ok-items.ensures.read in
    items_arrayed c.args.shared.now items c.in_ok-items.items other read ∙ ap (λ (u : WireType). Ok (V.Array u c.in_ok-items.items)) (sym c.in_ok-element.ensures)

pub read_elements-loop-next-preserved : goal.read_elements-loop-next-preserved
read_elements-loop-next-preserved t c =
    let i = c.loop-next.invariant.rest in
    let s = elements_step (reads c.args.depth c.args.endian c.args.element.now) c.args.bytes.now c.loop-next.items c.loop-next.next i.0 c.in-Ok.item c.in-Ok.end c.loop-next-test.true c.in-Ok.ensures.within.0 c.in-Ok.ensures.read i.1 in
    record { within = c.in-Ok.ensures.within.1; rest = (s.0, s.1, i.2 ∙ (s.2 ∙ rw c.in_ok-push-in-Ok.ensures.ok refl)) }

pub read_elements-returns-in-Err : goal.read_elements-returns-in-Err
read_elements-returns-in-Err t c =
    let i = c.loop-next.invariant.rest in
    record { read = subst (Fails c.in-Err.error) (sym i.2) (elements_fails (reads c.args.depth c.args.endian c.args.element.now) c.args.bytes.now c.loop-next.items c.loop-next.next i.0 c.in-Err.error c.loop-next-test.true i.1 c.in-Err.ensures.read) }

pub read_elements-returns : goal.read_elements-returns
read_elements-returns t c =
    let i = c.loop-next.invariant.rest in
    record { read = i.2 ∙ elements_end (reads c.args.depth c.args.endian c.args.element.now) c.args.bytes.now c.loop-next.items c.loop-next.next i.0 (omega arith) }

pub read_members-returns-in-Err-clause-read : goal.read_members-returns-in-Err-clause-read
read_members-returns-in-Err-clause-read t c =
    subst (Fails c.in-Err.error) (sym c.loop-kind.invariant.rest) (members_fails (reads c.args.depth c.args.endian) c.args.bytes.now c.args.kinds.now c.loop-kind.kind-index c.loop-kind.values c.loop-kind.next c.kind-item.result c.in-Err.error c.loop-kind-test.true c.kind-item.is c.in-Err.ensures.read)

pub read_members-loop-kind-preserved : goal.read_members-loop-kind-preserved
read_members-loop-kind-preserved t c = record {
  least = omega (arith, c.loop-kind.invariant.least, c.in-Ok.ensures.within.0);
  within = c.in-Ok.ensures.within.1;
  rest = c.loop-kind.invariant.rest ∙ (members_step (reads c.args.depth c.args.endian) c.args.bytes.now c.args.kinds.now c.loop-kind.kind-index c.loop-kind.values c.loop-kind.next c.kind-item.result c.in-Ok.value c.in-Ok.end c.loop-kind-test.true c.kind-item.is c.in-Ok.ensures.read ∙ rw c.in_ok-push-in-Ok.ensures.ok refl);
}

pub read_members-returns-clause-read : goal.read_members-returns-clause-read
read_members-returns-clause-read t c = c.loop-kind.invariant.rest ∙ members_end (reads c.args.depth c.args.endian) c.args.bytes.now c.args.kinds.now c.loop-kind.kind-index c.loop-kind.values c.loop-kind.next (omega arith)

pub read_within-returns-in-Array-clause-read : goal.read_within-returns-in-Array-clause-read
read_within-returns-in-Array-clause-read t c = rw (reads_array c.args.depth c.args.endian c.args.kind.now c.in-Array.element c.args.at (drop c.args.at c.args.bytes.now) c.if-depth-eq0.false c.in-Array.is) c.read_array.ensures.read

pub read_within-returns-in-Struct-clause-read : goal.read_within-returns-in-Struct-clause-read
read_within-returns-in-Struct-clause-read t c = rw (reads_struct c.args.depth c.args.endian c.args.kind.now c.in-Struct.kinds c.args.at (drop c.args.at c.args.bytes.now) c.if-depth-eq0.false c.in-Struct.is, ← c.as_slice.ensures) c.read_struct.ensures.read

pub read_within-returns-in-DictEntry-clause-read : goal.read_within-returns-in-DictEntry-clause-read
read_within-returns-in-DictEntry-clause-read t c = rw (reads_entry c.args.depth c.args.endian c.args.kind.now c.in-DictEntry.key c.in-DictEntry.value c.args.at (drop c.args.at c.args.bytes.now) c.if-depth-eq0.false c.in-DictEntry.is, ← c.get.ensures, ← c.get-in-DictEntry.ensures) c.read_entry.ensures.read

pub read_variant-returns-in_err-value-clause-read : goal.read_variant-returns-in_err-value-clause-read
read_variant-returns-in_err-value-clause-read t c =
    let p = err_from_is_err_and c.from_residual.result c.from_residual.ensures.1 in
    rw (p.1, p.2) (variant_fails (reads c.args.depth c.args.endian) c.args.endian c.args.at (drop c.args.at c.args.bytes.now) c.in_err-value.field-0.0 c.in_err-value.ensures.read)

pub read_variant-returns-clause-read : goal.read_variant-returns-clause-read
read_variant-returns-clause-read t c = rw c.in_ok-new.ensures (variant_gives (reads c.args.depth c.args.endian) c.args.endian c.args.at (drop c.args.at c.args.bytes.now) (after c.args.bytes.now (c.in_ok-value.value, c.in_ok-value.next)) c.in_ok-value.ensures.read)
