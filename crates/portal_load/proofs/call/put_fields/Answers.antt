use Rattle.std.proofs.Common.{◌≡◌, List, ℕ, [], ◌∷◌, ◌++◌, length, ap, ◌∙◌}
use Rattle.dbus_types.specs.declared.types.Endian.TheVariants.{Little}
use Rattle.dbus_types.specs.declared.types.Value.{Value}
use Rattle.dbus_types.specs.declared.types.Value.TheVariants as V
use Rattle.dbus_values.specs.Spelling.{spelling}
use Rattle.dbus_message.specs.Written.{field, signature_field}
use Rattle.dbus_message.proofs.WrittenHeader.{row_last, row_more}
use Rattle.portal_load.specs.Calls.{documents_interface, documents_path}
use Rattle.portal_load.proofs.CallLaid.{on_ok}
use Rattle.portal_load.proofs.call.put_fields.Goals as goal

pub returns : goal.returns
returns c =
    let member = c.args.member.now in
    let body = c.args.body.now in
    let path : Value = field 1 (V.ObjectPath documents_path) in
    let interface : Value = field 2 (V.Str documents_interface) in
    let name : Value = field 3 (V.Str member) in
    let signature : Value = signature_field body in
    let out = c.args.out.now in
    let a = c.write_path_field.new.out in
    let b = c.write_text_field.new.out in
    let d = c.write_text_field-2.new.out in
    let e = c.write_signature_field.new.out in
    let first : a ≡ out ++ spelling Little (length out) path = c.in_ok-write_path_field.ensures.ok in
    let second : b ≡ a ++ spelling Little (length a) interface = c.in_ok-write_text_field.ensures.ok in
    let third : d ≡ b ++ spelling Little (length b) name =
    c.in_ok-write_text_field-2.ensures.ok ∙ ap (λ (text : List ℕ). b ++ spelling Little (length b) (field 3 (V.Str text))) c.as_bytes.ensures.value in
    on_ok c.write_signature_field.result (λ (last : e ≡ d ++ spelling Little (length d) signature).
    row_more out a e path (interface ∷ name ∷ signature ∷ []) first (row_more a b e interface (name ∷ signature ∷ []) second (row_more b d e name (signature ∷ []) third (row_last d e signature last)))) c.write_signature_field.ensures.ok
