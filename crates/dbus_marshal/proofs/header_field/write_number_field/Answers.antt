use Rattle.std.proofs.lemmas.Result.{on_ok_weaker}
use Rattle.dbus_types.specs.declared.types.Endian.TheVariants.{Little}
use Rattle.dbus_marshal.proofs.WrittenFields.{number_whole}
use Rattle.dbus_marshal.proofs.header_field.write_number_field.Goals as goal

pub returns-clause-ok : goal.returns-clause-ok
returns-clause-ok c = on_ok_weaker c.put_32.result (λ h. number_whole Little c.args.out.now c.put_head.new.out c.put_32.new.out c.args.code c.args.number c.in_ok-put_head.ensures.ok h) c.put_32.ensures.ok
