use Rattle.std.proofs.Common.{◌+◌, ℕ, List, refl, subst}
use Rattle.dbus_types.specs.declared.types.Endian.TheVariants.{Little}
use Rattle.dbus_types.specs.declared.types.Value.TheOpen.{Value-F}
use Rattle.dbus_types.specs.declared.types.Value.TheVariants as V
use Rattle.dbus_values.specs.Spelling.{spell_step, spelled_length}
use Rattle.dbus_values.proofs.OneSpelling.{roll_str}
use Rattle.store_data.specs.Ends.{Ends}
use Rattle.store_data.proofs.EndLemmas.{leaf}
use Rattle.store_data.proofs.lengths.str_end.Goals as goal

pub returns : goal.returns
returns c =
    let at = c.args.at in
    let bytes = c.as_bytes.result.now in
    subst (λ (t : List ℕ). Ends (at + spelled_length at (V.Str t)) c.text_end.result) c.as_bytes.ensures
    (leaf at (V.Str bytes) (V.Str bytes) (spell_step Little (Value-F.Str bytes)) c.text_end.result refl (roll_str Little bytes) c.text_end.ensures)
