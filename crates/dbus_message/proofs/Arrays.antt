-- The array of the fields.
use Rattle.std.proofs.Common.{◌≡◌, ℕ, ◌+◌, ◌-◌, ◌≤◌, List, [], ◌∷◌, ◌++◌, length, take, drop, Ok, Err, refl, sym, ap, subst, ◌∙◌, append-nil, arith}
use Rattle.std.proofs.lemmas.List.{take_all, length-drop}
use Rattle.dbus_types.specs.declared.types.Endian.{Endian}
use Rattle.dbus_types.specs.declared.types.WireType.{WireType, out-WireType, the_lemmas as type_lemmas}
use Rattle.dbus_types.specs.declared.types.WireType.TheOpen.{WireType-F}
use Rattle.dbus_types.specs.declared.types.WireType.TheVariants as W
use Rattle.dbus_types.specs.declared.types.Value.{Value, out-Value, the_lemmas}
use Rattle.dbus_types.specs.declared.types.Value.TheOpen.{Value-F}
use Rattle.dbus_types.specs.declared.types.Value.TheVariants as V
use Rattle.dbus_basic.specs.declared.error.ReadError.{ReadError}
use Rattle.dbus_values.specs.Spells.{Spells, Row, SpellsWithin}
use Rattle.dbus_basic.specs.Reading.{IsRead}
use Rattle.dbus_values.proofs.PackedBytes.{of_others, struct_no_byte}
use Rattle.dbus_marshal.proofs.SpelledIsRead.{one_spelling}
use Rattle.dbus_message.specs.declared.error.MessageError.TheVariants.{Bad}
use Rattle.dbus_message.specs.Header.{endian_of, field_bytes}
use Rattle.dbus_message.specs.Fields.{field_type, AreFieldsOf, known}
use Rattle.dbus_message.specs.Errors.{error_of}
use Rattle.dbus_message.specs.Answers.{IsReadFields}
use Rattle.dbus_message.proofs.Bodies.{refused, weak}

out_array : (t : WireType) (vs : List Value) → out-Value (V.Array t vs) ≡ Value-F.Array t vs
out_array t vs = search the_lemmas

out_array_type : (t : WireType) → out-WireType (W.Array t) ≡ WireType-F.Array t
out_array_type t = search type_lemmas

pub same_items : (t u : WireType) (vs ws : List Value) → V.Array t vs ≡ V.Array u ws → vs ≡ ws
same_items t u vs ws e = let p : Value-F.Array t vs ≡ Value-F.Array u ws = sym (out_array t vs) ∙ (ap out-Value e ∙ out_array u ws) in cc

pub is_array : (e : Endian) (t : WireType) (at : ℕ) (v : Value) (text : List ℕ) → (t ≡ W.Byte → ⊥) → Spells e at (W.Array t) v text → (vs : List Value) × (v ≡ V.Array t vs)
unfolding SpellsWithin
is_array e t at v text none h = let row : Row (SpellsWithin 63 e) e (WireType-F.Array t) at v text = subst (λ (f : WireType-F WireType). Row (SpellsWithin 63 e) e f at v text) (out_array_type t) h in (row.2.0, row.2.2 ∙ of_others t row.2.0 none)

pub no_byte : field_type ≡ W.Byte → ⊥
no_byte = struct_no_byte (W.Byte ∷ W.Variant ∷ [])

pub one_list : (bytes : List ℕ) (fs gs : List Value) → AreFieldsOf bytes fs → AreFieldsOf bytes gs → fs ≡ gs
one_list bytes fs gs p q = same_items field_type field_type fs gs (one_spelling 64 (endian_of bytes) (W.Array field_type) 12 (V.Array field_type fs) (V.Array field_type gs) (field_bytes bytes) (field_bytes bytes) [] [] p q refl).0

whole_text : (next : ℕ) (bytes : List ℕ) → length bytes ≤ next → take (next - 12) (drop 12 bytes) ≡ drop 12 bytes
whole_text next bytes le = take_all (next - 12) (drop 12 bytes) (omega (arith, length-drop {A = ℕ} 12 bytes, le))

module _ (e : Endian) (bytes : List ℕ) (items : List Value) (next : ℕ) (long : 12 ≤ length bytes)
    (only : (all : List Value) (text rest : List ℕ) → Spells e 12 (W.Array field_type) (V.Array field_type all) text → drop 12 bytes ≡ text ++ rest → (items ≡ known all) × (next ≡ 12 + length text)) where
  pub fields_good : length bytes ≤ next → (all : List Value) × (items ≡ known all) × Spells e 12 (W.Array field_type) (V.Array field_type all) (take (next - 12) (drop 12 bytes)) → IsReadFields e (drop 12 bytes) (Ok items)
  fields_good end found = (
    (found.0, found.1, subst (λ (w : List ℕ). Spells e 12 (W.Array field_type) (V.Array field_type found.0) w) (whole_text next bytes end) found.2),
    λ gs h. h.1 ∙ sym (only h.0 (drop 12 bytes) [] h.2 (sym (append-nil (drop 12 bytes)))).0,
  )

  pub fields_short : next + 1 ≤ length bytes → IsReadFields e (drop 12 bytes) (Err (Bad 6))
  fields_short left = (λ gs h. let p = only h.0 (drop 12 bytes) [] h.2 (sym (append-nil (drop 12 bytes))) in absurd (omega (arith, p.1, left, long, length-drop {A = ℕ} 12 bytes)), refl)

-- the fields that the bytes spell, of which some are known
abbrev AreKnown : Endian → List ℕ → List Value → Type 0
AreKnown e bytes some = (fields : List Value) × (some ≡ known fields) × Spells e 12 (W.Array field_type) (V.Array field_type fields) bytes

pub fields_bad : {Y : Type 0} (e : Endian) (bytes : List ℕ) (d : ReadError) (Q : List Value → List ℕ → Y → Type 0)
    → ((all : List Value) (text rest : List ℕ) → Spells e 12 (W.Array field_type) (V.Array field_type all) text → drop 12 bytes ≡ text ++ rest → IsRead {X = Y} (Err d) (Q all text)) → IsReadFields e (drop 12 bytes) (Err (error_of 6 d))
fields_bad {Y = Y} e bytes d Q never = refused (AreKnown e (drop 12 bytes)) (λ (y : Y). Unit {0}) 6 d (λ gs h. weak d _ (λ (y : Y). Unit {0}) (never h.0 (drop 12 bytes) [] h.2 (sym (append-nil (drop 12 bytes)))))
