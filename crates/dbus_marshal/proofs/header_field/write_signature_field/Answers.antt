use Rattle.std.proofs.lemmas.Result.{on_ok_weaker}
use Rattle.std.specs.Prelude.{map}
use Rattle.dbus_types.specs.Types.{types_text}
use Rattle.dbus_values.specs.Values.{type_of}
use Rattle.dbus_types.specs.declared.types.Endian.TheVariants.{Little}
use Rattle.dbus_marshal.proofs.WrittenFields.{signature_whole}
use Rattle.dbus_marshal.proofs.header_field.write_signature_field.Goals as goal

pub returns-clause-ok : goal.returns-clause-ok
returns-clause-ok c = on_ok_weaker c.put_signature.result (λ h. signature_whole Little c.args.out.now c.put_head.new.out c.put_signature.new.out c.args.code (types_text (map type_of c.args.body.now)) c.in_ok-put_head.ensures.ok h) c.put_signature.ensures.ok
