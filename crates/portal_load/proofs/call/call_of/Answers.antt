use Rattle.std.proofs.Common.{◌≡◌, List, ℕ, ◌-◌, ◌++◌, length, ap, ◌∙◌, arith}
use Rattle.dbus_types.specs.declared.types.Endian.TheVariants.{Little}
use Rattle.dbus_types.specs.declared.types.Value.TheVariants as V
use Rattle.dbus_values.specs.Spelling.{spelling, spellings}
use Rattle.dbus_marshal.proofs.SpellingsMove.{spellings_move}
use Rattle.dbus_message.specs.Fields.{field_type}
use Rattle.dbus_message.proofs.WriteMessage.{body_aligned}
use Rattle.portal_load.specs.Calls.{call_fields, call_of}
use Rattle.portal_load.proofs.CallLaid.{parts_laid}
use Rattle.portal_load.proofs.call.call_of.Goals as goal

pub returns : goal.returns
unfolding call_of
returns c =
    let body = c.args.body.now in
    let T = spelling Little 12 (V.Array field_type (call_fields c.args.member.now body)) in
    let B = spellings Little 0 body in
    let d = c.in_ok-bytes.bytes in
    let e = c.pad.new.out in
    let f = c.write_all.new.out in
    let values : f ≡ e ++ B = c.in_ok-write_all.ensures.ok ∙ ap (λ (w : List ℕ). e ++ w) (spellings_move Little body (length e) 0 (body_aligned d e c.in_ok-pad.ensures.ok)) in
    let count : ℕ = c.len.result - c.len-start.result in
    parts_laid c.args.serial T B d e f c.overwrite_length.new.out count c.in_ok-bytes.ensures c.in_ok-pad.ensures.ok values (omega (arith, c.len.ensures, c.len-start.ensures)) c.overwrite_length.ensures
