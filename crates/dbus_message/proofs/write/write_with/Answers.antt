use Rattle.std.proofs.Common.{◌≡◌, List, ℕ, ◌-◌, ◌++◌, length, sym, ap, ◌∙◌, arith}
use Rattle.dbus_types.specs.declared.types.Endian.TheVariants.{Little}
use Rattle.dbus_types.specs.declared.types.WireType.TheVariants as W
use Rattle.dbus_types.specs.declared.types.Value.TheVariants as V
use Rattle.dbus_values.specs.Spelling.{spelling, spellings}
use Rattle.dbus_values.proofs.OneSpelling.{spells_same}
use Rattle.dbus_marshal.proofs.SpellingsMove.{spellings_move}
use Rattle.dbus_message.specs.Fields.{field_type}
use Rattle.dbus_message.specs.Written.{body_out, fields_out, kind_out, laid}
use Rattle.dbus_message.proofs.WriteMessage.{body_aligned, body_is, parts_laid}
use Rattle.dbus_message.proofs.write.write_with.Goals as goal

pub returns : goal.returns
returns c = λ text written.
    let out = c.args.message.now in
    let k = kind_out out in
    let serial = c.args.serial in
    let array = V.Array field_type (fields_out out) in
    let T = spelling Little 12 array in
    let B = spellings Little 0 (body_out out) in
    let d = c.in_ok-bytes.bytes in
    let e = c.pad.new.out in
    let f = c.write_all.new.out in
    let values : f ≡ e ++ B = c.in_ok-write_all.ensures.ok ∙ (ap (λ (w : List ℕ). e ++ w) (spellings_move Little c.args.body.now (length e) 0 (body_aligned d e c.in_ok-pad.ensures.ok)) ∙ ap (λ vs. e ++ spellings Little 0 vs) c.requires) in
    let count : ℕ = c.len.result - c.len-start.result in
    let bytes = parts_laid k serial T B d e f c.overwrite_length.new.out count c.in_ok-bytes.ensures c.in_ok-pad.ensures.ok values (omega (arith, c.len.ensures, c.len-start.ensures)) c.overwrite_length.ensures in
    let fields : T ≡ written.0 = sym (spells_same 64 Little (W.Array field_type) 12 array written.0 written.2).0 in
    let body : B ≡ written.1 = sym (body_is (body_out out) 0 written.1 written.3) in
    bytes ∙ ((λ i. laid k serial (fields i) (body i)) ∙ sym written.4)
