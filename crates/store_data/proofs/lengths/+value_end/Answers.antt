use Rattle.std.proofs.Common.{◌≡◌, ◌+◌, ◌∙◌, ℕ, List, ap, sym, arith}
use Rattle.std.specs.Int.{w16, w32, w64, cast_unsigned}
use Rattle.dbus_types.specs.declared.types.Endian.TheVariants.{Little}
use Rattle.dbus_types.specs.declared.types.Value.{Value}
use Rattle.dbus_types.specs.declared.types.Value.TheOpen.{Value-F}
use Rattle.dbus_types.specs.declared.types.Value.TheVariants as V
use Rattle.dbus_types.specs.Types.{alignment}
use Rattle.dbus_values.specs.Values.{type_of}
use Rattle.dbus_values.specs.Spells.{gap, bit}
use Rattle.dbus_values.specs.Spelling.{spell_step, spelled_length, spelled_lengths}
use Rattle.dbus_values.proofs.OneSpelling.{roll_bool, roll_i16, roll_u16, roll_i32, roll_u32, roll_i64, roll_u64, roll_double, roll_handle}
use Rattle.store_data.specs.Ends.{elements_at, inside_at}
use Rattle.store_data.proofs.EndLemmas.{ends-at, past, leaf, struct-end, entry-end, array-end, variant-end}
use Rattle.store_data.proofs.lengths.+value_end.Goals as goal

pub value_end-returns-in-Bool : goal.value_end-returns-in-Bool
value_end-returns-in-Bool t c =
    leaf c.args.at c.args.value.now (V.Bool c.in-Bool.field-0) (spell_step Little (Value-F.Bool c.in-Bool.field-0)) c.end_32.result c.in-Bool.is (roll_bool Little c.in-Bool.field-0) (c.end_32.ensures (bit c.in-Bool.field-0))

pub value_end-returns-in-I16 : goal.value_end-returns-in-I16
value_end-returns-in-I16 t c =
    leaf c.args.at c.args.value.now (V.I16 c.in-I16.field-0) (spell_step Little (Value-F.I16 c.in-I16.field-0)) c.end_16.result c.in-I16.is (roll_i16 Little c.in-I16.field-0) (c.end_16.ensures (cast_unsigned w16 c.in-I16.field-0))

pub value_end-returns-in-U16 : goal.value_end-returns-in-U16
value_end-returns-in-U16 t c =
    leaf c.args.at c.args.value.now (V.U16 c.in-U16.field-0) (spell_step Little (Value-F.U16 c.in-U16.field-0)) c.end_16-in-U16.result c.in-U16.is (roll_u16 Little c.in-U16.field-0) (c.end_16-in-U16.ensures (c.in-U16.field-0))

pub value_end-returns-in-I32 : goal.value_end-returns-in-I32
value_end-returns-in-I32 t c =
    leaf c.args.at c.args.value.now (V.I32 c.in-I32.field-0) (spell_step Little (Value-F.I32 c.in-I32.field-0)) c.end_32-in-I32.result c.in-I32.is (roll_i32 Little c.in-I32.field-0) (c.end_32-in-I32.ensures (cast_unsigned w32 c.in-I32.field-0))

pub value_end-returns-in-U32 : goal.value_end-returns-in-U32
value_end-returns-in-U32 t c =
    leaf c.args.at c.args.value.now (V.U32 c.in-U32.field-0) (spell_step Little (Value-F.U32 c.in-U32.field-0)) c.end_32-in-U32.result c.in-U32.is (roll_u32 Little c.in-U32.field-0) (c.end_32-in-U32.ensures (c.in-U32.field-0))

pub value_end-returns-in-I64 : goal.value_end-returns-in-I64
value_end-returns-in-I64 t c =
    leaf c.args.at c.args.value.now (V.I64 c.in-I64.field-0) (spell_step Little (Value-F.I64 c.in-I64.field-0)) c.end_64.result c.in-I64.is (roll_i64 Little c.in-I64.field-0) (c.end_64.ensures (cast_unsigned w64 c.in-I64.field-0))

pub value_end-returns-in-U64 : goal.value_end-returns-in-U64
value_end-returns-in-U64 t c =
    leaf c.args.at c.args.value.now (V.U64 c.in-U64.field-0) (spell_step Little (Value-F.U64 c.in-U64.field-0)) c.end_64-in-U64.result c.in-U64.is (roll_u64 Little c.in-U64.field-0) (c.end_64-in-U64.ensures (c.in-U64.field-0))

pub value_end-returns-in-Double : goal.value_end-returns-in-Double
value_end-returns-in-Double t c =
    leaf c.args.at c.args.value.now (V.Double c.in-Double.field-0) (spell_step Little (Value-F.Double c.in-Double.field-0)) c.end_64-in-Double.result c.in-Double.is (roll_double Little c.in-Double.field-0) (c.end_64-in-Double.ensures (c.in-Double.field-0))

pub value_end-returns-in-Handle : goal.value_end-returns-in-Handle
value_end-returns-in-Handle t c =
    leaf c.args.at c.args.value.now (V.Handle c.in-Handle.field-0) (spell_step Little (Value-F.Handle c.in-Handle.field-0)) c.end_32-in-Handle.result c.in-Handle.is (roll_handle Little c.in-Handle.field-0) (c.end_32-in-Handle.ensures (c.in-Handle.field-0))

pub value_end-returns-in_err-inside-in-Variant : goal.value_end-returns-in_err-inside-in-Variant
value_end-returns-in_err-inside-in-Variant t c =
    let at = c.args.at in
    let inner = c.get-inner.result.now in
    let is : c.args.value.now ≡ V.Variant inner = c.in-Variant.is ∙ ap (λ (v : Value). V.Variant v) (sym c.get-inner.ensures) in
    let same = ap (λ (v : Value). at + spelled_length at v) is in
    let whole = variant-end at inner in
    past c.from_residual.result (inside_at (type_of inner) at) (at + spelled_length at c.args.value.now) c.from_residual.ensures c.in_err-inside-in-Variant.ensures (omega (arith, same, whole))

pub value_end-returns-in_ok-inside-in-Variant : goal.value_end-returns-in_ok-inside-in-Variant
value_end-returns-in_ok-inside-in-Variant t c =
    let at = c.args.at in
    let inner = c.get-inner.result.now in
    let inside = c.in_ok-inside-in-Variant.inside in
    let is : c.args.value.now ≡ V.Variant inner = c.in-Variant.is ∙ ap (λ (v : Value). V.Variant v) (sym c.get-inner.ensures) in
    let same = ap (λ (v : Value). at + spelled_length at v) is in
    ends-at (inside + spelled_length inside inner) (at + spelled_length at c.args.value.now) c.value_end.result
    (ap (λ (n : ℕ). n + spelled_length n inner) c.in_ok-inside-in-Variant.ensures.0 ∙ (variant-end at inner ∙ sym same)) c.value_end.ensures

pub value_end-returns-in_err-first-in-Array : goal.value_end-returns-in_err-first-in-Array
value_end-returns-in_err-first-in-Array t c =
    let at = c.args.at in
    let element = c.in-Array.element in
    let to : c.alignment_of.result ≡ alignment element = c.alignment_of.ensures.known ∙ ap alignment c.deref.ensures in
    let moved = ap (λ (n : ℕ). elements_at n at) to in
    let same = ap (λ (v : Value). at + spelled_length at v) c.in-Array.is in
    let whole = array-end at element c.in-Array.items in
    past c.from_residual-in_err-first-in-Array.result (elements_at c.alignment_of.result at) (at + spelled_length at c.args.value.now) c.from_residual-in_err-first-in-Array.ensures c.in_err-first-in-Array.ensures (omega (arith, moved, same, whole))

pub value_end-returns-in_ok-first-in-Array : goal.value_end-returns-in_ok-first-in-Array
value_end-returns-in_ok-first-in-Array t c =
    let at = c.args.at in
    let element = c.in-Array.element in
    let first = c.in_ok-first-in-Array.first in
    let start = elements_at (alignment element) at in
    let to : c.alignment_of.result ≡ alignment element = c.alignment_of.ensures.known ∙ ap alignment c.deref.ensures in
    let begins : first ≡ start = c.in_ok-first-in-Array.ensures.0 ∙ ap (λ (n : ℕ). elements_at n at) to in
    let same = ap (λ (v : Value). at + spelled_length at v) c.in-Array.is in
    ends-at (first + spelled_lengths first c.as_slice-in-Array.result.now) (at + spelled_length at c.args.value.now) c.values_end.result
    (ap (λ (n : ℕ). n + spelled_lengths n c.as_slice-in-Array.result.now) begins
    ∙ (ap (λ (vs : List Value). start + spelled_lengths start vs) c.as_slice-in-Array.ensures ∙ (array-end at element c.in-Array.items ∙ sym same)))
    c.values_end.ensures

pub value_end-returns-in_ok-first-in-Struct : goal.value_end-returns-in_ok-first-in-Struct
value_end-returns-in_ok-first-in-Struct t c =
    let at = c.args.at in
    let first = c.in_ok-first-in-Struct.first in
    let start = at + gap 8 at in
    let same = ap (λ (v : Value). at + spelled_length at v) c.in-Struct.is in
    ends-at (first + spelled_lengths first c.as_slice-in-Struct.result.now) (at + spelled_length at c.args.value.now) c.values_end-in-Struct.result
    (ap (λ (n : ℕ). n + spelled_lengths n c.as_slice-in-Struct.result.now) c.in_ok-first-in-Struct.ensures.0
    ∙ (ap (λ (vs : List Value). start + spelled_lengths start vs) c.as_slice-in-Struct.ensures ∙ (struct-end at c.in-Struct.members ∙ sym same)))
    c.values_end-in-Struct.ensures

pub value_end-returns-in_err-second-in-DictEntry : goal.value_end-returns-in_err-second-in-DictEntry
value_end-returns-in_err-second-in-DictEntry t c =
    let at = c.args.at in
    let key = c.in-DictEntry.key in
    let first = c.in_ok-first-in-DictEntry.first in
    let moved = ap (λ (n : ℕ). n + spelled_length n key) c.in_ok-first-in-DictEntry.ensures.0 in
    let lent = ap (λ (v : Value). first + spelled_length first v) c.get.ensures in
    let same = ap (λ (v : Value). at + spelled_length at v) c.in-DictEntry.is in
    let whole = entry-end at key c.in-DictEntry.value in
    past c.from_residual-in_err-second-in-DictEntry.result (first + spelled_length first c.get.result.now) (at + spelled_length at c.args.value.now) c.from_residual-in_err-second-in-DictEntry.ensures c.in_err-second-in-DictEntry.ensures (omega (arith, moved, lent, same, whole))

pub value_end-returns-in_ok-second-in-DictEntry : goal.value_end-returns-in_ok-second-in-DictEntry
value_end-returns-in_ok-second-in-DictEntry t c =
    let at = c.args.at in
    let key = c.in-DictEntry.key in
    let value = c.in-DictEntry.value in
    let first = c.in_ok-first-in-DictEntry.first in
    let second = c.in_ok-second-in-DictEntry.second in
    let start = at + gap 8 at in
    let moved = ap (λ (n : ℕ). n + spelled_length n key) c.in_ok-first-in-DictEntry.ensures.0 in
    let lent = ap (λ (v : Value). first + spelled_length first v) c.get.ensures in
    let same = ap (λ (v : Value). at + spelled_length at v) c.in-DictEntry.is in
    let begins : second ≡ start + spelled_length start key = c.in_ok-second-in-DictEntry.ensures.0 ∙ (lent ∙ moved) in
    ends-at (second + spelled_length second c.get-in-DictEntry.result.now) (at + spelled_length at c.args.value.now) c.value_end-in-DictEntry-2.result
    (ap (λ (v : Value). second + spelled_length second v) c.get-in-DictEntry.ensures
    ∙ (ap (λ (n : ℕ). n + spelled_length n value) begins ∙ (entry-end at key value ∙ sym same)))
    c.value_end-in-DictEntry-2.ensures
