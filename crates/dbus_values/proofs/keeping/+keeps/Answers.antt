use Rattle.std.proofs.Common.{◌≡◌, ◌-◌, ◌↔◌, ◌∙◌, false, refl, sym, ap, subst, arith, rules}
use Rattle.std.specs.Prelude.{IsTrue}
use Rattle.dbus_types.specs.declared.types.Value.TheVariants as V
use Rattle.dbus_types.specs.declared.types.Value.{Value}
use Rattle.dbus_types.specs.Types.{IsVariantType}
use Rattle.dbus_values.specs.Values.{type_of, KeepsWithin}
use Rattle.dbus_values.proofs.LimitsByLayer.{all_seen, one_more, and_no, and_on, variant_deep, array_deep, struct_deep, entry_deep, no_byte, listed_bytes, variant_on, array_on, struct_on, entry_on, leaf_within}
use Rattle.dbus_values.proofs.keeping.+keeps.Goals as goal

pub items_keep-loop-item-preserved : goal.items_keep-loop-item-preserved
items_keep-loop-item-preserved t c = one_more (λ (v : Value). (type_of v ≡ c.args.element.now) × KeepsWithin c.args.depth v) c.args.items.now c.loop-item.item-index c.item-item.result (omega arith) c.item-item.is c.loop-item.invariant (c.has_type.ensures.0 (search rules), c.keeps_within.ensures.0 (search rules))

pub items_keep-returns : goal.items_keep-returns
items_keep-returns t c = all_seen (λ (v : Value). (type_of v ≡ c.args.element.now) × KeepsWithin c.args.depth v) c.args.items.now c.loop-item.item-index (omega arith) c.loop-item.invariant

pub members_keep-loop-member-preserved : goal.members_keep-loop-member-preserved
members_keep-loop-member-preserved t c = one_more (KeepsWithin c.args.depth) c.args.members.now c.loop-member.member-index c.member-item.result (omega arith) c.member-item.is c.loop-member.invariant (c.keeps_within.ensures.0 (search rules))

pub members_keep-returns : goal.members_keep-returns
members_keep-returns t c = all_seen (KeepsWithin c.args.depth) c.args.members.now c.loop-member.member-index (omega arith) c.loop-member.invariant

pub keeps_within-returns-then-depth-eq0 : goal.keeps_within-returns-then-depth-eq0
keeps_within-returns-then-depth-eq0 t c = variant_deep c.args.depth c.args.value.now c.in-Variant.inner (omega arith) c.in-Variant.is

pub keeps_within-returns-then-depth-eq0-2 : goal.keeps_within-returns-then-depth-eq0-2
keeps_within-returns-then-depth-eq0-2 t c = array_deep c.is_empty.result c.args.depth c.args.value.now c.in-Array.element c.in-Array.items c.in-Array.items (omega arith) c.in-Array.is refl (no_byte c.is_byte.result c.in-Array.element c.get-kind.result.now c.get-kind.ensures c.is_byte.ensures (cc)) c.is_empty.ensures

pub keeps_within-returns-then-is_byte : goal.keeps_within-returns-then-is_byte
keeps_within-returns-then-is_byte t c = listed_bytes c.args.depth c.args.value.now c.in-Array.element c.in-Array.items c.in-Array.is (sym c.get-kind.ensures ∙ c.is_byte.ensures.0 (cc))

pub keeps_within-returns-in-Bytes : goal.keeps_within-returns-in-Bytes
keeps_within-returns-in-Bytes t c = subst (λ (v : Value). IsTrue c.bytes_keep.result ↔ KeepsWithin c.args.depth v) (ap V.Bytes c.as_slice.ensures ∙ sym c.in-Bytes.is) c.bytes_keep.ensures

pub keeps_within-returns-then-depth-eq0-3 : goal.keeps_within-returns-then-depth-eq0-3
keeps_within-returns-then-depth-eq0-3 t c = struct_deep c.is_empty-then-depth-eq0-3.result c.args.depth c.args.value.now c.in-Struct.members c.in-Struct.members (omega arith) c.in-Struct.is refl c.is_empty-then-depth-eq0-3.ensures

pub keeps_within-returns-then-depth-eq0-4 : goal.keeps_within-returns-then-depth-eq0-4
keeps_within-returns-then-depth-eq0-4 t c = entry_deep c.args.depth c.args.value.now c.in-DictEntry.key c.in-DictEntry.value (omega arith) c.in-DictEntry.is

pub keeps_within-returns-in_default : goal.keeps_within-returns-in_default
keeps_within-returns-in_default t c = leaf_within c.leaf_keeps.result c.args.depth c.args.value.now c.in_default.not-Variant c.in_default.not-Bytes c.in_default.not-Array c.in_default.not-Struct c.in_default.not-DictEntry c.leaf_keeps.ensures

pub keeps_within-returns-then-not-has_variant_type : goal.keeps_within-returns-then-not-has_variant_type
keeps_within-returns-then-not-has_variant_type t c = variant_on false c.args.depth (c.args.depth - 1) c.args.value.now c.in-Variant.inner c.get-inner.result.now (omega arith) c.in-Variant.is c.get-inner.ensures
    (and_no c.has_variant_type.result (IsVariantType (type_of c.get-inner.result.now)) (KeepsWithin (c.args.depth - 1) c.get-inner.result.now) (cc) c.has_variant_type.ensures)

pub keeps_within-returns-else-not-has_variant_type : goal.keeps_within-returns-else-not-has_variant_type
keeps_within-returns-else-not-has_variant_type t c = variant_on c.keeps_within.result c.args.depth (c.args.depth - 1) c.args.value.now c.in-Variant.inner c.get-inner.result.now (omega arith) c.in-Variant.is c.get-inner.ensures
    (and_on c.has_variant_type.result c.keeps_within.result (IsVariantType (type_of c.get-inner.result.now)) (KeepsWithin (c.args.depth - 1) c.get-inner.result.now) (cc) c.has_variant_type.ensures c.keeps_within.ensures)

pub keeps_within-returns-else-depth-eq0-2 : goal.keeps_within-returns-else-depth-eq0-2
keeps_within-returns-else-depth-eq0-2 t c = array_on c.items_keep.result c.args.depth (c.args.depth - 1) c.args.value.now c.in-Array.element c.in-Array.items c.as_slice-in-Array.result.now (omega arith) c.in-Array.is c.as_slice-in-Array.ensures (no_byte c.is_byte.result c.in-Array.element c.get-kind.result.now c.get-kind.ensures c.is_byte.ensures (cc)) (rw (← c.get-kind.ensures) c.items_keep.ensures)

pub keeps_within-returns-else-depth-eq0-3 : goal.keeps_within-returns-else-depth-eq0-3
keeps_within-returns-else-depth-eq0-3 t c = struct_on c.members_keep.result c.args.depth (c.args.depth - 1) c.args.value.now c.in-Struct.members c.as_slice-in-Struct.result.now (omega arith) c.in-Struct.is c.as_slice-in-Struct.ensures c.members_keep.ensures

pub keeps_within-returns-then-not-keeps_within : goal.keeps_within-returns-then-not-keeps_within
keeps_within-returns-then-not-keeps_within t c = entry_on false c.args.depth (c.args.depth - 1) c.args.value.now c.in-DictEntry.key c.in-DictEntry.value c.get.result.now c.in-DictEntry.value (omega arith) c.in-DictEntry.is c.get.ensures refl
    (and_no c.keeps_within-in-DictEntry.result (KeepsWithin (c.args.depth - 1) c.get.result.now) (KeepsWithin (c.args.depth - 1) c.in-DictEntry.value) (cc) c.keeps_within-in-DictEntry.ensures)

pub keeps_within-returns-else-not-keeps_within : goal.keeps_within-returns-else-not-keeps_within
keeps_within-returns-else-not-keeps_within t c = entry_on c.keeps_within-in-DictEntry-2.result c.args.depth (c.args.depth - 1) c.args.value.now c.in-DictEntry.key c.in-DictEntry.value c.get.result.now c.get-in-DictEntry.result.now (omega arith) c.in-DictEntry.is c.get.ensures c.get-in-DictEntry.ensures
    (and_on c.keeps_within-in-DictEntry.result c.keeps_within-in-DictEntry-2.result (KeepsWithin (c.args.depth - 1) c.get.result.now) (KeepsWithin (c.args.depth - 1) c.get-in-DictEntry.result.now) (cc) c.keeps_within-in-DictEntry.ensures c.keeps_within-in-DictEntry-2.ensures)
