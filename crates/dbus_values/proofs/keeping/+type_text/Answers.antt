use Rattle.std.proofs.Common.{◌+◌, ◌∙◌, length, map, ap, arith}
use Rattle.dbus_types.specs.Types.{type_text, types_text}
use Rattle.dbus_values.specs.Values.{type_of}
use Rattle.dbus_values.proofs.ListFronts.{type_struct, type_entry}
use Rattle.dbus_values.proofs.LimitsByLayer.{less_left, struct_length, entry_length}
use Rattle.dbus_values.proofs.keeping.+type_text.Goals as goal

pub type_leaves-returns-in_ok-checked_sub-in-Struct : goal.type_leaves-returns-in_ok-checked_sub-in-Struct
type_leaves-returns-in_ok-checked_sub-in-Struct t c = less_left c.types_leave.result c.in_ok-checked_sub-in-Struct.field-0 c.args.limit (length (types_text (map type_of c.as_slice.result.now))) (length (type_text (type_of c.args.value.now))) 2
    (omega (arith, c.in_ok-checked_sub-in-Struct.ensures))
    (struct_length (type_of c.args.value.now) (map type_of c.in-Struct.members) (map type_of c.as_slice.result.now) (ap type_of c.in-Struct.is ∙ type_struct c.in-Struct.members) (ap (map type_of) c.as_slice.ensures))
    c.types_leave.ensures

pub type_leaves-returns-in_ok-left-in-DictEntry : goal.type_leaves-returns-in_ok-left-in-DictEntry
type_leaves-returns-in_ok-left-in-DictEntry t c = less_left c.type_leaves-in-DictEntry.result c.in_ok-left-in-DictEntry.left c.args.limit (length (type_text (type_of c.get-in-DictEntry.result.now))) (length (type_text (type_of c.args.value.now))) (length (type_text (type_of c.get.result.now)) + 2)
    (omega (arith, c.in_ok-checked_sub-in-DictEntry.ensures, c.in_ok-left-in-DictEntry.ensures))
    (entry_length (type_of c.args.value.now) (type_of c.in-DictEntry.key) (type_of c.in-DictEntry.value) (type_of c.get.result.now) (type_of c.get-in-DictEntry.result.now) (ap type_of c.in-DictEntry.is ∙ type_entry c.in-DictEntry.key c.in-DictEntry.value) (ap type_of c.get.ensures) (ap type_of c.get-in-DictEntry.ensures))
    c.type_leaves-in-DictEntry.ensures
