use Rattle.dbus_types.specs.declared.types.Endian.TheVariants.{Little}
use Rattle.dbus_types.specs.declared.types.Value.TheVariants as V
use Rattle.dbus_values.specs.Spelling.{spelling}
use Rattle.dbus_message.specs.Fields.{field_type}
use Rattle.dbus_message.specs.Written.{fields_out, kind_out}
use Rattle.dbus_message.proofs.WriteMessage.{front_laid}
use Rattle.dbus_message.proofs.write.front_of.Goals as goal

pub returns : goal.returns
returns c =
    front_laid (kind_out c.args.message.now) c.args.serial (spelling Little 12 (V.Array field_type (fields_out c.args.message.now))) c.in_ok-bytes.bytes c.pad.new.out c.in_ok-bytes.ensures c.in_ok-pad.ensures.ok
