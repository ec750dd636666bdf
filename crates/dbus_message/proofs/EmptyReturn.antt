-- The return of nothing.
use Rattle.std.proofs.Common.{◌≡◌, ℕ, ◌<◌, ◌^◌, List, [], ◌∷◌, length, ap, ◌∙◌, arith}
use Rattle.std.specs.Int.{w32}
use Rattle.std.proofs.lemmas.List.Elements.{All-nil}
use Rattle.dbus_types.specs.declared.types.Endian.TheVariants.{Little}
use Rattle.dbus_types.specs.declared.types.WireType.{the_lemmas as type_lemmas}
use Rattle.dbus_types.specs.declared.types.WireType.TheVariants as W
use Rattle.dbus_types.specs.declared.types.Value.TheOpen.{Value-F}
use Rattle.dbus_types.specs.declared.types.Value.TheVariants as V
use Rattle.dbus_types.specs.declared.message.OutMessage.TheVariants.{Return}
use Rattle.dbus_types.specs.Types.{type_text}
use Rattle.dbus_values.specs.Values.{KeepsRules}
use Rattle.dbus_values.specs.Spells.{number}
use Rattle.dbus_values.specs.Spelling.{aligned, array_body, variant_body, Spelled, spell_step, spelled, spelling}
use Rattle.dbus_values.proofs.OneSpelling.{roll_byte, roll_u32, roll_variant, roll_array, roll_struct}
use Rattle.dbus_message.specs.Fields.{field_type}
use Rattle.dbus_message.specs.Written.{field, CanWrite}
use Rattle.dbus_message.proofs.WrittenAreMessages.{field_alignment}
use Rattle.dbus_message.proofs.WriteMessage.{whole_len}

text_u32 : type_text W.U32 ≡ 117 ∷ []
text_u32 = search type_lemmas

module _ (to : ℕ) where
  abbrev variant : Spelled
  variant = (W.Variant, variant_body (117 ∷ []) (aligned 4 (λ start. number Little w32 to)))

  variant_spelled : spelled Little (V.Variant (V.U32 to)) ≡ variant
  variant_spelled =
      roll_variant Little (V.U32 to) ∙ (ap (λ (s : Spelled). spell_step Little (Value-F.Variant s)) (roll_u32 Little to)
      ∙ ap (λ (text : List ℕ). let s : Spelled = (W.Variant, variant_body text (aligned 4 (λ start. number Little w32 to))) in s) text_u32)

  abbrev struct : Spelled
  struct = spell_step Little (Value-F.Struct (spell_step Little (Value-F.Byte 5) ∷ variant ∷ []))

  struct_spelled : spelled Little (field 5 (V.U32 to)) ≡ struct
  struct_spelled = roll_struct Little (V.Byte 5 ∷ V.Variant (V.U32 to) ∷ []) ∙ (λ i. spell_step Little (Value-F.Struct (roll_byte Little 5 i ∷ variant_spelled i ∷ [])))

  array_spelled : spelling Little 12 (V.Array field_type (field 5 (V.U32 to) ∷ [])) ≡ aligned 4 (array_body Little 8 (struct ∷ [])) 12
  array_spelled =
      ap (λ (s : Spelled). s.1 12) (roll_array Little field_type (field 5 (V.U32 to) ∷ []) ∙ (λ i. spell_step Little (Value-F.Array field_type (struct_spelled i ∷ []))))
      ∙ ap (λ (n : ℕ). aligned 4 (array_body Little n (struct ∷ [])) 12) field_alignment

  fields_length : length (spelling Little 12 (V.Array field_type (field 5 (V.U32 to) ∷ []))) ≡ 12
  fields_length = ap length array_spelled

-- It may be written.
pub bare_can : (to serial : ℕ) → to < 2 ^ 32 → (serial ≡ 0 → ⊥) → CanWrite (Return to []) serial
bare_can to serial fits some = (some, (fits, (All-nil KeepsRules, omega arith)), omega (arith, whole_len 2 serial (spelling Little 12 (V.Array field_type (field 5 (V.U32 to) ∷ []))) [], fields_length to))
