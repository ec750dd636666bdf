use Rattle.std.proofs.Common.{false, refl}
use Rattle.dbus_types.specs.declared.types.Endian.TheVariants.{Little}
use Rattle.dbus_types.specs.declared.types.Value.TheOpen.{Value-F}
use Rattle.dbus_types.specs.declared.types.Value.TheVariants as V
use Rattle.dbus_values.specs.Spells.{bit}
use Rattle.dbus_values.specs.Spelling.{spell_step}
use Rattle.dbus_values.proofs.OneSpelling.{roll_bool}
use Rattle.store_data.proofs.EndLemmas.{leaf}
use Rattle.store_data.proofs.lengths.false_end.Goals as goal

pub returns : goal.returns
returns c = leaf c.args.at (V.Bool false) (V.Bool false) (spell_step Little (Value-F.Bool false)) c.end_32.result refl (roll_bool Little false) (c.end_32.ensures (bit false))
