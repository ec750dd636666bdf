use Rattle.std.proofs.Common.{◌++◌, ◌∙◌, map, ap, sym}
use Rattle.dbus_types.specs.declared.types.WireType.{WireType}
use Rattle.dbus_types.specs.Types.{type_text}
use Rattle.dbus_values.specs.Values.{type_of}
use Rattle.dbus_values.proofs.ListFronts.{on_ok, struct_put, entry_put, type_struct, type_entry}
use Rattle.dbus_values.proofs.write.+put_of.Goals as goal

pub put_type_of-returns-in_ok-put_types_of-in-Struct-clause-ok : goal.put_type_of-returns-in_ok-put_types_of-in-Struct-clause-ok
put_type_of-returns-in_ok-put_types_of-in-Struct-clause-ok t c = on_ok c.push-in-Struct-2.result _ _
    (λ e. struct_put (map type_of c.in-Struct.members) (map type_of c.as_slice.result.now) c.args.out.now c.push-in-Struct.new.self c.put_types_of.new.out c.push-in-Struct-2.new.self (ap (map type_of) c.as_slice.ensures) c.in_ok-push-in-Struct.ensures.ok c.in_ok-put_types_of-in-Struct.ensures.ok e
    ∙ ap (λ (k : WireType). c.args.out.now ++ type_text k) (sym (ap type_of c.in-Struct.is ∙ type_struct c.in-Struct.members)))
    c.push-in-Struct-2.ensures.ok

pub put_type_of-returns-in_ok-put_type_of-in-DictEntry-2-clause-ok : goal.put_type_of-returns-in_ok-put_type_of-in-DictEntry-2-clause-ok
put_type_of-returns-in_ok-put_type_of-in-DictEntry-2-clause-ok t c = on_ok c.push-in-DictEntry-2.result _ _
    (λ e. entry_put (type_of c.in-DictEntry.key) (type_of c.in-DictEntry.value) (type_of c.get.result.now) (type_of c.get-in-DictEntry.result.now) c.args.out.now c.push-in-DictEntry.new.self c.put_type_of.new.out c.put_type_of-in-DictEntry.new.out c.push-in-DictEntry-2.new.self (ap type_of c.get.ensures) (ap type_of c.get-in-DictEntry.ensures) c.in_ok-push-in-DictEntry.ensures.ok c.in_ok-put_type_of-in-DictEntry.ensures.ok c.in_ok-put_type_of-in-DictEntry-2.ensures.ok e
    ∙ ap (λ (k : WireType). c.args.out.now ++ type_text k) (sym (ap type_of c.in-DictEntry.is ∙ type_entry c.in-DictEntry.key c.in-DictEntry.value)))
    c.push-in-DictEntry-2.ensures.ok
