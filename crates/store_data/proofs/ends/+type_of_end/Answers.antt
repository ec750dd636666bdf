use Rattle.std.proofs.Common.{◌+◌, length, map, arith, ap, refl, ◌∙◌}
use Rattle.dbus_types.specs.declared.types.Value.{Value}
use Rattle.dbus_types.specs.Types.{type_text, types_text}
use Rattle.dbus_values.specs.Values.{type_of}
use Rattle.dbus_values.proofs.ListFronts.{type_struct, type_entry}
use Rattle.dbus_values.proofs.LimitsByLayer.{struct_length, entry_length}
use Rattle.store_data.proofs.EndLemmas.{ends-at, past}
use Rattle.store_data.proofs.ends.+type_of_end.Goals as goal

pub type_of_end-returns-in_err-last-in-Struct : goal.type_of_end-returns-in_err-last-in-Struct
type_of_end-returns-in_err-last-in-Struct t c =
    let long = struct_length (type_of c.args.value.now) (map type_of c.in-Struct.members) (map type_of c.as_slice.result.now) (ap type_of c.in-Struct.is ∙ type_struct c.in-Struct.members) (ap (map type_of) c.as_slice.ensures) in
    past c.from_residual-in_err-last-in-Struct.result (c.in_ok-first-in-Struct.first + length (types_text (map type_of c.as_slice.result.now))) (c.args.at + length (type_text (type_of c.args.value.now)))
    c.from_residual-in_err-last-in-Struct.ensures c.in_err-last-in-Struct.ensures (omega (arith, long, c.in_ok-first-in-Struct.ensures))

pub type_of_end-returns-in_err-second-in-DictEntry : goal.type_of_end-returns-in_err-second-in-DictEntry
type_of_end-returns-in_err-second-in-DictEntry t c =
    let long = entry_length (type_of c.args.value.now) (type_of c.in-DictEntry.key) (type_of c.in-DictEntry.value) (type_of c.in-DictEntry.key) (type_of c.in-DictEntry.value) (ap type_of c.in-DictEntry.is ∙ type_entry c.in-DictEntry.key c.in-DictEntry.value) refl refl in
    let key = ap (λ (v : Value). length (type_text (type_of v))) c.get-in-DictEntry.ensures in
    past c.from_residual-in_err-second-in-DictEntry.result (c.in_ok-first-in-DictEntry.first + length (type_text (type_of c.get-in-DictEntry.result.now))) (c.args.at + length (type_text (type_of c.args.value.now)))
    c.from_residual-in_err-second-in-DictEntry.ensures c.in_err-second-in-DictEntry.ensures (omega (arith, long, key, c.in_ok-first-in-DictEntry.ensures))

pub type_of_end-returns-in_err-last-in-DictEntry : goal.type_of_end-returns-in_err-last-in-DictEntry
type_of_end-returns-in_err-last-in-DictEntry t c =
    let long = entry_length (type_of c.args.value.now) (type_of c.in-DictEntry.key) (type_of c.in-DictEntry.value) (type_of c.get-in-DictEntry.result.now) (type_of c.get-in-DictEntry-2.result.now) (ap type_of c.in-DictEntry.is ∙ type_entry c.in-DictEntry.key c.in-DictEntry.value) (ap type_of c.get-in-DictEntry.ensures) (ap type_of c.get-in-DictEntry-2.ensures) in
    past c.from_residual-in_err-last-in-DictEntry.result (c.in_ok-second-in-DictEntry.second + length (type_text (type_of c.get-in-DictEntry-2.result.now))) (c.args.at + length (type_text (type_of c.args.value.now)))
    c.from_residual-in_err-last-in-DictEntry.ensures c.in_err-last-in-DictEntry.ensures (omega (arith, long, c.in_ok-first-in-DictEntry.ensures, c.in_ok-second-in-DictEntry.ensures))

pub type_of_end-returns-in_ok-last-in-Struct : goal.type_of_end-returns-in_ok-last-in-Struct
type_of_end-returns-in_ok-last-in-Struct t c =
    let long = struct_length (type_of c.args.value.now) (map type_of c.in-Struct.members) (map type_of c.as_slice.result.now) (ap type_of c.in-Struct.is ∙ type_struct c.in-Struct.members) (ap (map type_of) c.as_slice.ensures) in
    ends-at (c.in_ok-last-in-Struct.last + 1) (c.args.at + length (type_text (type_of c.args.value.now))) c.end_of-in-Struct-2.result
    (omega (arith, long, c.in_ok-first-in-Struct.ensures, c.in_ok-last-in-Struct.ensures)) c.end_of-in-Struct-2.ensures

pub type_of_end-returns-in_ok-last-in-DictEntry : goal.type_of_end-returns-in_ok-last-in-DictEntry
type_of_end-returns-in_ok-last-in-DictEntry t c =
    let long = entry_length (type_of c.args.value.now) (type_of c.in-DictEntry.key) (type_of c.in-DictEntry.value) (type_of c.get-in-DictEntry.result.now) (type_of c.get-in-DictEntry-2.result.now) (ap type_of c.in-DictEntry.is ∙ type_entry c.in-DictEntry.key c.in-DictEntry.value) (ap type_of c.get-in-DictEntry.ensures) (ap type_of c.get-in-DictEntry-2.ensures) in
    ends-at (c.in_ok-last-in-DictEntry.last + 1) (c.args.at + length (type_text (type_of c.args.value.now))) c.end_of-in-DictEntry-2.result
    (omega (arith, long, c.in_ok-first-in-DictEntry.ensures, c.in_ok-second-in-DictEntry.ensures, c.in_ok-last-in-DictEntry.ensures)) c.end_of-in-DictEntry-2.ensures
