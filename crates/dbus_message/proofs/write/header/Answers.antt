use Rattle.std.proofs.Common.{◌≡◌, List, ℕ, ◌-◌, [], ◌∷◌, ◌++◌, ap, ◌∙◌, arith}
use Rattle.std.specs.Int.{w32}
use Rattle.dbus_types.specs.declared.types.Endian.TheVariants.{Little}
use Rattle.dbus_types.specs.declared.types.Value.TheVariants as V
use Rattle.dbus_values.specs.Spells.{number}
use Rattle.dbus_values.specs.Spelling.{spelling}
use Rattle.dbus_message.specs.Fields.{field_type}
use Rattle.dbus_message.specs.Written.{fields_out, kind_out}
use Rattle.dbus_message.proofs.WrittenHeader.{fields_laid, head_laid, head_len}
use Rattle.dbus_message.proofs.write.header.Goals as goal

pub returns : goal.returns
returns c =
    let k = kind_out c.args.message.now in
    let serial = c.args.serial in
    let fs = fields_out c.args.message.now in
    let a = c.extend_from_slice.new.self in
    let b = c.extend_from_slice-2.new.self in
    let d = c.extend_from_slice-3.new.self in
    let x = c.extend_from_slice-4.new.self in
    let y = c.put_fields.new.out in
    let p : a ≡ 108 ∷ k ∷ 1 ∷ 1 ∷ [] = c.in_ok-extend_from_slice.ensures.ok ∙ (ap (λ (w : List ℕ). w ++ (108 ∷ c.kind_of-kind.result ∷ 1 ∷ 1 ∷ [])) c.new-bytes.ensures ∙ ap (λ (n : ℕ). 108 ∷ n ∷ 1 ∷ 1 ∷ []) c.kind_of-kind.ensures) in
    let q : b ≡ a ++ (0 ∷ 0 ∷ 0 ∷ 0 ∷ []) = c.in_ok-extend_from_slice-2.ensures.ok in
    let r : d ≡ b ++ number Little w32 serial = c.in_ok-extend_from_slice-3.ensures.ok ∙ ap (λ (w : List ℕ). b ++ w) c.to_le_bytes.ensures in
    let head = head_laid k serial a b d p q r in
    let count : ℕ = c.len-len.result - 16 in
    fields_laid d x y c.overwrite_length.new.out fs count (head_len k serial d head) c.in_ok-extend_from_slice-4.ensures.ok c.in_ok-put_fields.ensures (omega (arith, c.len-len.ensures)) c.overwrite_length.ensures
    ∙ ap (λ (w : List ℕ). w ++ spelling Little 12 (V.Array field_type fs)) head
