use Rattle.std.proofs.Common.{◌++◌, ◌∙◌, ap, sym}
use Rattle.dbus_types.specs.declared.types.WireType.{WireType}
use Rattle.dbus_types.specs.Types.{type_text}
use Rattle.dbus_values.proofs.ListFronts.{on_ok, struct_put, entry_put}
use Rattle.dbus_values.proofs.write.+put.Goals as goal

pub put_type-returns-in_ok-put_types-in-Struct-clause-ok : goal.put_type-returns-in_ok-put_types-in-Struct-clause-ok
put_type-returns-in_ok-put_types-in-Struct-clause-ok t c = on_ok c.push-in-Struct-2.result _ _
    (λ e. struct_put c.in-Struct.kinds c.as_slice.result.now c.args.out.now c.push-in-Struct.new.self c.put_types.new.out c.push-in-Struct-2.new.self c.as_slice.ensures c.in_ok-push-in-Struct.ensures.ok c.in_ok-put_types-in-Struct.ensures.ok e
    ∙ ap (λ (k : WireType). c.args.out.now ++ type_text k) (sym c.in-Struct.is))
    c.push-in-Struct-2.ensures.ok

pub put_type-returns-in_ok-put_type-in-DictEntry-2-clause-ok : goal.put_type-returns-in_ok-put_type-in-DictEntry-2-clause-ok
put_type-returns-in_ok-put_type-in-DictEntry-2-clause-ok t c = on_ok c.push-in-DictEntry-2.result _ _
    (λ e. entry_put c.in-DictEntry.key c.in-DictEntry.value c.get-in-DictEntry.result.now c.get-in-DictEntry-2.result.now c.args.out.now c.push-in-DictEntry.new.self c.put_type-in-DictEntry.new.out c.put_type-in-DictEntry-2.new.out c.push-in-DictEntry-2.new.self c.get-in-DictEntry.ensures c.get-in-DictEntry-2.ensures c.in_ok-push-in-DictEntry.ensures.ok c.in_ok-put_type-in-DictEntry.ensures.ok c.in_ok-put_type-in-DictEntry-2.ensures.ok e
    ∙ ap (λ (k : WireType). c.args.out.now ++ type_text k) (sym c.in-DictEntry.is))
    c.push-in-DictEntry-2.ensures.ok
