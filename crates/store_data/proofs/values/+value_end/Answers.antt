use Rattle.std.proofs.Common.{◌≡◌, ◌+◌, ◌∙◌, List, drop, map, sym, ap, arith, rules, refl}
use Rattle.dbus_types.specs.declared.types.Value.{Value}
use Rattle.dbus_types.specs.declared.types.Value.TheVariants as V
use Rattle.dbus_values.specs.Spells.{gap}
use Rattle.dbus_values.specs.Spelling.{spelled_length, spelled_lengths}
use Rattle.portal_model.specs.Data.{all_keep, judged}
use Rattle.store_data.specs.Walks.{Stands, ahead_of_elements}
use Rattle.store_data.proofs.WalkedLeaves.{stands-at, stops}
use Rattle.store_data.proofs.WalkedParts.{array-parts, array-passes, array-stops, at-first, at-last, bytes-passes, bytes-so, entry-parts, entry-passes, entry-stops, item-keeps, items-keep, leaf-keeps, next-left, none-left, not-empty, one-on, one-stops, signature_bytes, struct-parts, struct-passes, struct-stops, variant-parts, variant-passes, variant-stops}
use Rattle.store_data.proofs.values.+value_end.Goals as goal

-- ---- a variant

pub value_end-returns-in_err-inside-in-Variant : goal.value_end-returns-in_err-inside-in-Variant
value_end-returns-in_err-inside-in-Variant t c passed at k h =
    let value = c.args.value.now in
    let inner = c.get-inner.result.now in
    let is : value ≡ V.Variant inner = c.in-Variant.is ∙ ap (λ (v : Value). V.Variant v) (sym c.get-inner.ensures) in
    stops ((judged value).1 at) (passed + spelled_length at value) (at + spelled_length at value) c.from_residual.result c.from_residual.ensures (variant-stops at value inner is (c.in_err-inside-in-Variant.ensures passed at (variant-parts value inner is k).0.0 h))

pub value_end-returns-in_ok-inside-in-Variant : goal.value_end-returns-in_ok-inside-in-Variant
value_end-returns-in_ok-inside-in-Variant t c passed at k h =
    let value = c.args.value.now in
    let inner = c.get-inner.result.now in
    let is : value ≡ V.Variant inner = c.in-Variant.is ∙ ap (λ (v : Value). V.Variant v) (sym c.get-inner.ensures) in
    let parts = variant-parts value inner is k in
    let ahead = c.in_ok-inside-in-Variant.ensures passed at parts.0.0 h in
    variant-passes passed at value inner c.value_end.result is ahead.0 (c.value_end.ensures (passed + signature_bytes inner) (at + signature_bytes inner) parts.1 ahead.1)

-- ---- an array of bytes, and another

pub value_end-returns-in-Bytes : goal.value_end-returns-in-Bytes
value_end-returns-in-Bytes t c passed at k h =
    bytes-passes passed at c.in-Bytes.bytes c.args.value.now c.bytes_end.result c.in-Bytes.is k
    (bytes-so passed at c.len.result c.in-Bytes.bytes c.bytes_end.result c.len.ensures (c.bytes_end.ensures passed at h))

pub value_end-returns-in_err-body-in-Array : goal.value_end-returns-in_err-body-in-Array
value_end-returns-in_err-body-in-Array t c passed at k h =
    let value = c.args.value.now in
    let element = c.deref.result.now in
    let items = c.as_slice.result.now in
    let is : value ≡ V.Array element items = c.in-Array.is ∙ (λ i. V.Array (sym c.deref.ensures i) (sym c.as_slice.ensures i)) in
    let ahead = ahead_of_elements element at in
    let inside = items-keep element items (array-parts value element items is k) in
    let body = c.in_err-body-in-Array.ensures 0 (at + ahead) inside (c.from_here.ensures (passed + ahead) (at + ahead) (c.elements_start-first.ensures passed at h)) in
    stops ((judged value).1 at) (passed + spelled_length at value) (at + spelled_length at value) c.from_residual-in_err-body-in-Array.result c.from_residual-in_err-body-in-Array.ensures (array-stops at value element items is k body)

pub value_end-returns-in_ok-body-in-Array : goal.value_end-returns-in_ok-body-in-Array
value_end-returns-in_ok-body-in-Array t c passed at k h =
    let value = c.args.value.now in
    let element = c.deref.result.now in
    let items = c.as_slice.result.now in
    let is : value ≡ V.Array element items = c.in-Array.is ∙ (λ i. V.Array (sym c.deref.ensures i) (sym c.as_slice.ensures i)) in
    let ahead = ahead_of_elements element at in
    let count = spelled_lengths (at + ahead) items in
    let first = c.elements_start-first.ensures passed at h in
    let inside = items-keep element items (array-parts value element items is k) in
    let body = c.in_ok-body-in-Array.ensures 0 (at + ahead) inside (c.from_here.ensures (passed + ahead) (at + ahead) first) in
    let counted : Stands count ((at + ahead) + count) c.in_ok-body-in-Array.body = stands-at (0 + count) count ((at + ahead) + count) ((at + ahead) + count) c.in_ok-body-in-Array.body (omega arith) refl body.1 in
    array-passes passed at value element items c.elements_end.result is k body.0 (c.elements_end.ensures (passed + ahead) (at + ahead) count first counted)

-- ---- a struct, and a dict entry

pub value_end-returns-then-is_empty : goal.value_end-returns-then-is_empty
value_end-returns-then-is_empty t c passed at k h = struct-stops at c.args.value.now c.in-Struct.members c.in-Struct.is (c.is_empty.ensures.0 (search rules))

pub value_end-returns-else-is_empty : goal.value_end-returns-else-is_empty
value_end-returns-else-is_empty t c passed at k h =
    let members = c.as_slice-in-Struct.result.now in
    let is : c.args.value.now ≡ V.Struct members = c.in-Struct.is ∙ ap (λ (vs : List Value). V.Struct vs) (sym c.as_slice-in-Struct.ensures) in
    struct-passes passed at c.args.value.now members c.values_end-in-Struct.result is (not-empty c.is_empty.result c.in-Struct.members members c.if-is_empty.false c.is_empty.ensures c.as_slice-in-Struct.ensures) (c.values_end-in-Struct.ensures (passed + gap 8 at) (at + gap 8 at) (struct-parts c.args.value.now members is k) (c.padded.ensures passed at h))

pub value_end-returns-in_err-second-in-DictEntry : goal.value_end-returns-in_err-second-in-DictEntry
value_end-returns-in_err-second-in-DictEntry t c passed at k h =
    let value = c.args.value.now in
    let key = c.get.result.now in
    let is : value ≡ V.DictEntry key c.in-DictEntry.value = c.in-DictEntry.is ∙ ap (λ (k : Value). V.DictEntry k c.in-DictEntry.value) (sym c.get.ensures) in
    let first = c.in_err-second-in-DictEntry.ensures (passed + gap 8 at) (at + gap 8 at) (entry-parts value key c.in-DictEntry.value is k).0 (c.padded-in-DictEntry.ensures passed at h) in
    stops ((judged value).1 at) (passed + spelled_length at value) (at + spelled_length at value) c.from_residual-in_err-second-in-DictEntry.result c.from_residual-in_err-second-in-DictEntry.ensures (entry-stops at value key c.in-DictEntry.value is first)

pub value_end-returns-in_ok-second-in-DictEntry : goal.value_end-returns-in_ok-second-in-DictEntry
value_end-returns-in_ok-second-in-DictEntry t c passed at k h =
    let value = c.args.value.now in
    let key = c.get.result.now in
    let last = c.get-in-DictEntry.result.now in
    let is : value ≡ V.DictEntry key last = c.in-DictEntry.is ∙ (λ i. V.DictEntry (sym c.get.ensures i) (sym c.get-in-DictEntry.ensures i)) in
    let start = at + gap 8 at in
    let far = spelled_length start key in
    let parts = entry-parts value key last is k in
    let first = c.in_ok-second-in-DictEntry.ensures (passed + gap 8 at) start parts.0 (c.padded-in-DictEntry.ensures passed at h) in
    entry-passes passed at value key last c.value_end-in-DictEntry-2.result is first.0 (c.value_end-in-DictEntry-2.ensures ((passed + gap 8 at) + far) (start + far) parts.1 first.1)

pub value_end-returns-in_default : goal.value_end-returns-in_default
value_end-returns-in_default t c passed at k h = c.leaf_end.ensures passed at (leaf-keeps c.args.value.now c.in_default.not-Variant c.in_default.not-Bytes c.in_default.not-Array c.in_default.not-Struct c.in_default.not-DictEntry k) h

-- ---- one after another

pub values_end-loop-value-init : goal.values_end-loop-value-init
values_end-loop-value-init t c passed at k h = at-first passed at c.args.values.now c.args.values.now c.args.walk refl h

pub values_end-loop-value-preserved : goal.values_end-loop-value-preserved
values_end-loop-value-preserved t c passed at k h =
    let values = c.args.values.now in
    let index = c.loop-value.value-index in
    let value = c.value-item.result in
    let way = c.loop-value.invariant passed at k h in
    let keeps = item-keeps values index value (omega arith) c.value-item.is k in
    one-on passed at values (drop index values) (drop (index + 1) values) value c.loop-value.end c.in_ok-end.end way (next-left values index value (omega arith) c.value-item.is) (c.in_ok-end.ensures way.counted way.place keeps way.stands)

pub values_end-returns-in_err-end : goal.values_end-returns-in_err-end
values_end-returns-in_err-end t c passed at k h =
    let values = c.args.values.now in
    let index = c.loop-value.value-index in
    let value = c.value-item.result in
    let way = c.loop-value.invariant passed at k h in
    let keeps = item-keeps values index value (omega arith) c.value-item.is k in
    stops (all_keep (map judged values) at) (passed + spelled_lengths at values) (at + spelled_lengths at values) c.from_residual.result c.from_residual.ensures
    (one-stops passed at values (drop index values) (drop (index + 1) values) value c.loop-value.end way (next-left values index value (omega arith) c.value-item.is) (c.in_err-end.ensures way.counted way.place keeps way.stands))

pub values_end-returns : goal.values_end-returns
values_end-returns t c passed at k h = at-last passed at c.args.values.now (drop c.loop-value.value-index c.args.values.now) c.loop-value.end (none-left c.args.values.now c.loop-value.value-index (omega arith)) (c.loop-value.invariant passed at k h)
