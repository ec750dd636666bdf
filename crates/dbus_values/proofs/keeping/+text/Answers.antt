use Rattle.std.proofs.Common.{◌+◌, length, arith}
use Rattle.dbus_types.specs.Types.{type_text, types_text}
use Rattle.dbus_values.proofs.LimitsByLayer.{less_left, struct_length, entry_length}
use Rattle.dbus_values.proofs.keeping.+text.Goals as goal

pub text_leaves-returns-in_ok-checked_sub-in-Struct : goal.text_leaves-returns-in_ok-checked_sub-in-Struct
text_leaves-returns-in_ok-checked_sub-in-Struct t c = less_left c.texts_leave.result c.in_ok-checked_sub-in-Struct.field-0 c.args.limit (length (types_text c.as_slice.result.now)) (length (type_text c.args.kind.now)) 2
    (omega (arith, c.in_ok-checked_sub-in-Struct.ensures))
    (struct_length c.args.kind.now c.in-Struct.members c.as_slice.result.now c.in-Struct.is c.as_slice.ensures)
    c.texts_leave.ensures

pub text_leaves-returns-in_ok-left-in-DictEntry : goal.text_leaves-returns-in_ok-left-in-DictEntry
text_leaves-returns-in_ok-left-in-DictEntry t c = less_left c.text_leaves-in-DictEntry-2.result c.in_ok-left-in-DictEntry.left c.args.limit (length (type_text c.get-in-DictEntry-2.result.now)) (length (type_text c.args.kind.now)) (length (type_text c.get-in-DictEntry.result.now) + 2)
    (omega (arith, c.in_ok-checked_sub-in-DictEntry.ensures, c.in_ok-left-in-DictEntry.ensures))
    (entry_length c.args.kind.now c.in-DictEntry.key c.in-DictEntry.value c.get-in-DictEntry.result.now c.get-in-DictEntry-2.result.now c.in-DictEntry.is c.get-in-DictEntry.ensures c.get-in-DictEntry-2.ensures)
    c.text_leaves-in-DictEntry-2.ensures
