use Rattle.std.proofs.Common.{◌+◌, length, arith, ap, refl}
use Rattle.dbus_types.specs.declared.types.WireType.{WireType}
use Rattle.dbus_types.specs.Types.{type_text, types_text}
use Rattle.dbus_values.proofs.LimitsByLayer.{struct_length, entry_length}
use Rattle.store_data.proofs.EndLemmas.{ends-at, past}
use Rattle.store_data.proofs.ends.+type_end.Goals as goal

pub type_end-returns-in_err-last-in-Struct : goal.type_end-returns-in_err-last-in-Struct
type_end-returns-in_err-last-in-Struct t c =
    let long = struct_length c.args.kind.now c.in-Struct.members c.as_slice.result.now c.in-Struct.is c.as_slice.ensures in
    past c.from_residual-in_err-last-in-Struct.result (c.in_ok-first-in-Struct.first + length (types_text c.as_slice.result.now)) (c.args.at + length (type_text c.args.kind.now))
    c.from_residual-in_err-last-in-Struct.ensures c.in_err-last-in-Struct.ensures (omega (arith, long, c.in_ok-first-in-Struct.ensures))

pub type_end-returns-in_err-second-in-DictEntry : goal.type_end-returns-in_err-second-in-DictEntry
type_end-returns-in_err-second-in-DictEntry t c =
    let long = entry_length c.args.kind.now c.in-DictEntry.key c.in-DictEntry.value c.in-DictEntry.key c.in-DictEntry.value c.in-DictEntry.is refl refl in
    let key = ap (λ (k : WireType). length (type_text k)) c.get-in-DictEntry.ensures in
    past c.from_residual-in_err-second-in-DictEntry.result (c.in_ok-first-in-DictEntry.first + length (type_text c.get-in-DictEntry.result.now)) (c.args.at + length (type_text c.args.kind.now))
    c.from_residual-in_err-second-in-DictEntry.ensures c.in_err-second-in-DictEntry.ensures (omega (arith, long, key, c.in_ok-first-in-DictEntry.ensures))

pub type_end-returns-in_err-last-in-DictEntry : goal.type_end-returns-in_err-last-in-DictEntry
type_end-returns-in_err-last-in-DictEntry t c =
    let long = entry_length c.args.kind.now c.in-DictEntry.key c.in-DictEntry.value c.get-in-DictEntry.result.now c.get-in-DictEntry-2.result.now c.in-DictEntry.is c.get-in-DictEntry.ensures c.get-in-DictEntry-2.ensures in
    past c.from_residual-in_err-last-in-DictEntry.result (c.in_ok-second-in-DictEntry.second + length (type_text c.get-in-DictEntry-2.result.now)) (c.args.at + length (type_text c.args.kind.now))
    c.from_residual-in_err-last-in-DictEntry.ensures c.in_err-last-in-DictEntry.ensures (omega (arith, long, c.in_ok-first-in-DictEntry.ensures, c.in_ok-second-in-DictEntry.ensures))

pub type_end-returns-in_ok-last-in-Struct : goal.type_end-returns-in_ok-last-in-Struct
type_end-returns-in_ok-last-in-Struct t c =
    let long = struct_length c.args.kind.now c.in-Struct.members c.as_slice.result.now c.in-Struct.is c.as_slice.ensures in
    ends-at (c.in_ok-last-in-Struct.last + 1) (c.args.at + length (type_text c.args.kind.now)) c.end_of-in-Struct-2.result
    (omega (arith, long, c.in_ok-first-in-Struct.ensures, c.in_ok-last-in-Struct.ensures)) c.end_of-in-Struct-2.ensures

pub type_end-returns-in_ok-last-in-DictEntry : goal.type_end-returns-in_ok-last-in-DictEntry
type_end-returns-in_ok-last-in-DictEntry t c =
    let long = entry_length c.args.kind.now c.in-DictEntry.key c.in-DictEntry.value c.get-in-DictEntry.result.now c.get-in-DictEntry-2.result.now c.in-DictEntry.is c.get-in-DictEntry.ensures c.get-in-DictEntry-2.ensures in
    ends-at (c.in_ok-last-in-DictEntry.last + 1) (c.args.at + length (type_text c.args.kind.now)) c.end_of-in-DictEntry-2.result
    (omega (arith, long, c.in_ok-first-in-DictEntry.ensures, c.in_ok-second-in-DictEntry.ensures, c.in_ok-last-in-DictEntry.ensures)) c.end_of-in-DictEntry-2.ensures
