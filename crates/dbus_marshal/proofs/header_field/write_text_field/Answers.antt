use Rattle.std.proofs.lemmas.Result.{on_ok_weaker}
use Rattle.dbus_types.specs.declared.types.Endian.TheVariants.{Little}
use Rattle.dbus_marshal.proofs.WrittenFields.{text_whole}
use Rattle.dbus_marshal.proofs.header_field.write_text_field.Goals as goal

pub returns-clause-ok : goal.returns-clause-ok
returns-clause-ok c = on_ok_weaker c.put_text.result (λ h. text_whole Little c.args.out.now c.put_head.new.out c.put_text.new.out c.args.code c.args.text.now c.in_ok-put_head.ensures.ok h) c.put_text.ensures.ok
