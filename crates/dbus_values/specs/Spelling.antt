-- The spelling of a value, as a function of the value and the offset.
use Rattle.std.specs.Prelude.{ℕ, ◌+◌, List, [], ◌∷◌, ◌++◌, length, replicate, map}
use Rattle.std.specs.Int.{w8, w16, w32, w64, to_le_bytes, cast_unsigned}
use Rattle.dbus_types.specs.declared.types.Endian.{Endian}
use Rattle.dbus_types.specs.declared.types.Endian.TheVariants.{Little}
use Rattle.dbus_types.specs.declared.types.WireType.{WireType}
use Rattle.dbus_types.specs.declared.types.WireType.TheVariants as W
use Rattle.dbus_types.specs.declared.types.Value.{Value, fold-Value}
use Rattle.dbus_types.specs.declared.types.Value.TheOpen.{Value-F}
use Rattle.dbus_types.specs.Types.{alignment, type_text}
pub use Rattle.dbus_values.specs.Extends.{Extends}
use Rattle.dbus_values.specs.Spells.{number, gap, bit}

-- a body behind padding
abbrev pub aligned : ℕ → (ℕ → List ℕ) → ℕ → List ℕ
aligned to body at = replicate (gap to at) 0 ++ body (at + gap to at)

-- a type, and the spelling at an offset
abbrev pub Spelled : Type 0
Spelled = WireType × (ℕ → List ℕ)

-- one after another
abbrev pub in_row : List Spelled → ℕ → List ℕ
in_row [] at = []
in_row (s ∷ ss) at = s.1 at ++ in_row ss (at + length (s.1 at))

abbrev pub text_body : Endian → List ℕ → List ℕ
text_body e text = number e w32 (length text) ++ (text ++ 0 ∷ [])

abbrev pub array_body : Endian → ℕ → List Spelled → ℕ → List ℕ
array_body e to ss start = number e w32 (length (in_row ss (start + 4 + gap to (start + 4))))
    ++ (replicate (gap to (start + 4)) 0 ++ in_row ss (start + 4 + gap to (start + 4)))

-- bytes stand side by side
abbrev pub bytes_body : Endian → List ℕ → List ℕ
bytes_body e bytes = number e w32 (length bytes) ++ bytes

abbrev pub signature_body : List ℕ → List ℕ
signature_body text = to_le_bytes w8 (length text) ++ (text ++ 0 ∷ [])

abbrev pub variant_body : List ℕ → (ℕ → List ℕ) → ℕ → List ℕ
variant_body text inside at = to_le_bytes w8 (length text)
    ++ (text ++ 0 ∷ inside (at + (1 + length text + 1)))

abbrev pub spell_step : Endian → Value-F Spelled → Spelled
spell_step e (Value-F.Byte n) = (W.Byte, λ at. n ∷ [])
spell_step e (Value-F.Bool b) = (W.Bool, aligned 4 (λ start. number e w32 (bit b)))
spell_step e (Value-F.I16 z) = (W.I16, aligned 2 (λ start. number e w16 (cast_unsigned w16 z)))
spell_step e (Value-F.U16 n) = (W.U16, aligned 2 (λ start. number e w16 n))
spell_step e (Value-F.I32 z) = (W.I32, aligned 4 (λ start. number e w32 (cast_unsigned w32 z)))
spell_step e (Value-F.U32 n) = (W.U32, aligned 4 (λ start. number e w32 n))
spell_step e (Value-F.I64 z) = (W.I64, aligned 8 (λ start. number e w64 (cast_unsigned w64 z)))
spell_step e (Value-F.U64 n) = (W.U64, aligned 8 (λ start. number e w64 n))
spell_step e (Value-F.Double n) = (W.Double, aligned 8 (λ start. number e w64 n))
spell_step e (Value-F.Handle n) = (W.Handle, aligned 4 (λ start. number e w32 n))
spell_step e (Value-F.Str text) = (W.Str, aligned 4 (λ start. text_body e text))
spell_step e (Value-F.ObjectPath text) = (W.ObjectPath, aligned 4 (λ start. text_body e text))
spell_step e (Value-F.Signature text) = (W.Signature, λ at. signature_body text)
spell_step e (Value-F.Variant s) = (W.Variant, variant_body (type_text s.0) s.1)
spell_step e (Value-F.Bytes bytes) = (W.Array W.Byte, aligned 4 (λ start. bytes_body e bytes))
spell_step e (Value-F.Array t ss) = (W.Array t, aligned 4 (array_body e (alignment t) ss))
spell_step e (Value-F.Struct ss) = (W.Struct (map (λ s. s.0) ss), aligned 8 (in_row ss))
spell_step e (Value-F.DictEntry k x) = (W.DictEntry k.0 x.0, aligned 8 (in_row (k ∷ x ∷ [])))

abbrev pub spelled : Endian → Value → Spelled
spelled e = fold-Value Spelled (spell_step e)

-- the spelling of a value at an offset
abbrev pub spelling : Endian → ℕ → Value → List ℕ
spelling e at v = (spelled e v).1 at

-- of several, one after another
abbrev pub spellings : Endian → ℕ → List Value → List ℕ
spellings e at vs = in_row (map (spelled e) vs) at

-- how many bytes a value takes at an offset, its padding among them, in either order of bytes
abbrev pub spelled_length : ℕ → Value → ℕ
spelled_length at v = length (spelling Little at v)

-- of several, one after another
abbrev pub spelled_lengths : ℕ → List Value → ℕ
spelled_lengths at vs = length (spellings Little at vs)
