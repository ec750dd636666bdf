-- Which values may be the data of an entry of the permission store: D-Bus Specification, "Type
-- System" and "Marshaling (Wire Format)". These are tests, since a call with other data is refused.
use Rattle.std.specs.Prelude.{ℕ, ℤ, pos, negsuc, ◌+◌, ◌^◌, nat_le, nat_lt, List, [], ◌∷◌, length, map, Bool, true, false, not, ◌&&◌, cond, Result, Ok, Err}
use Rattle.std.specs.List.{list_all}
use Rattle.std.specs.Str.{is_utf8}
use Rattle.dbus_types.specs.declared.errors.SignatureError.{SignatureError}
use Rattle.dbus_types.specs.declared.types.Endian.TheVariants.{Little}
use Rattle.dbus_types.specs.declared.types.Value.{Value, fold-Value}
use Rattle.dbus_types.specs.declared.types.Value.TheOpen.{Value-F}
use Rattle.dbus_types.specs.declared.types.Value.TheVariants as V
use Rattle.dbus_types.specs.declared.types.WireType.{WireType}
use Rattle.dbus_types.specs.declared.types.WireType.TheVariants as W
use Rattle.dbus_types.specs.Names.{is_path}
use Rattle.dbus_types.specs.Reading.{whole_at}
use Rattle.dbus_values.specs.Spells.{gap}
use Rattle.dbus_values.specs.Spelling.{Spelled, in_row, spell_step, spelling}
use Rattle.dbus_types.specs.Types.{alignment, arrays_deep, brackets_deep, is_single, role, type_text}
use Rattle.dbus_values.specs.Values.{nesting}
use Rattle.portal_base.specs.Names.{is_same, is_byte_of_path}
use Rattle.portal_model.specs.Changed.{holds_handle}
use Rattle.portal_model.specs.State.{is_none}

-- ---- types

abbrev pub is_valid_type : WireType → Bool
is_valid_type t =
    is_single (role t) && (nat_le (arrays_deep t) 32 && nat_le (brackets_deep t) 32)

-- its signature, of this type alone, may stand ahead of a variant's value
abbrev pub is_variant_type : WireType → Bool
is_variant_type t = is_valid_type t && nat_le (length (type_text t)) 255

-- ---- values with no other inside

-- UTF-8 without zero bytes, whose number of bytes has 32 bits
abbrev pub is_text_value : List ℕ → Bool
is_text_value text =
    is_utf8 text && (list_all is_byte_of_path text && nat_lt (length text) (2 ^ 32))

abbrev pub is_read : {X : Type 0} → Result X SignatureError → Bool
is_read (Ok x) = true
is_read (Err e) = false

abbrev pub is_signature : List ℕ → Bool
is_signature text = nat_le (length text) 255 && is_read (whole_at 32 32 text)

-- ---- a value and those inside it

-- A type and the spelling at an offset; and whether the value and those inside it keep the rules
-- where they are spelled from that offset.
abbrev pub Judged : Type 0
Judged = Spelled × (ℕ → Bool)

abbrev pub spelled_of : Judged → Spelled
spelled_of j = j.0

-- one behind the other
abbrev pub all_keep : List Judged → ℕ → Bool
all_keep [] at = true
all_keep (j ∷ js) at = j.1 at && all_keep js (at + length (j.0.1 at))

abbrev pub is_of_type : WireType → Judged → Bool
is_of_type t j = is_same (type_text j.0.0) (type_text t)

-- the type of bytes, which are packed
abbrev pub is_byte : WireType → Bool
is_byte t = is_same (type_text t) (type_text W.Byte)

-- where the first element of an array stands, behind the number of their bytes and the padding
abbrev pub elements_at : WireType → ℕ → ℕ
elements_at t at = let start = at + gap 4 at in start + 4 + gap (alignment t) (start + 4)

-- The elements have the array's type, and their bytes are at most 64 MiB.
abbrev pub keeps_array : WireType → List Judged → ℕ → Bool
keeps_array t js first =
    list_all (is_of_type t) js
    && (nat_le (length (in_row (map spelled_of js) first)) 67_108_864 && all_keep js first)

-- at least minus the half, and below the half
abbrev pub is_within : ℕ → ℤ → Bool
is_within half (pos n) = nat_lt n half
is_within half (negsuc n) = nat_lt n half

-- a number fits its type
abbrev pub judge : Value-F Judged → Judged
judge (Value-F.Byte n) = (spell_step Little (Value-F.Byte n), λ at. nat_lt n (2 ^ 8))
judge (Value-F.Bool b) = (spell_step Little (Value-F.Bool b), λ at. true)
judge (Value-F.I16 z) = (spell_step Little (Value-F.I16 z), λ at. is_within (2 ^ 15) z)
judge (Value-F.U16 n) = (spell_step Little (Value-F.U16 n), λ at. nat_lt n (2 ^ 16))
judge (Value-F.I32 z) = (spell_step Little (Value-F.I32 z), λ at. is_within (2 ^ 31) z)
judge (Value-F.U32 n) = (spell_step Little (Value-F.U32 n), λ at. nat_lt n (2 ^ 32))
judge (Value-F.I64 z) = (spell_step Little (Value-F.I64 z), λ at. is_within (2 ^ 63) z)
judge (Value-F.U64 n) = (spell_step Little (Value-F.U64 n), λ at. nat_lt n (2 ^ 64))
judge (Value-F.Double n) = (spell_step Little (Value-F.Double n), λ at. nat_lt n (2 ^ 64))
judge (Value-F.Handle n) = (spell_step Little (Value-F.Handle n), λ at. nat_lt n (2 ^ 32))
judge (Value-F.Str text) = (spell_step Little (Value-F.Str text), λ at. is_text_value text)
judge (Value-F.ObjectPath text) =
    (spell_step Little (Value-F.ObjectPath text), λ at. is_text_value text && is_path text)
judge (Value-F.Signature text) =
    (spell_step Little (Value-F.Signature text), λ at. is_text_value text && is_signature text)
judge (Value-F.Variant j) = (
  spell_step Little (Value-F.Variant j.0),
  λ at. is_variant_type j.0.0 && j.1 (at + (1 + length (type_text j.0.0) + 1)),
)
judge (Value-F.Bytes bytes) = (
  spell_step Little (Value-F.Bytes bytes),
  λ at. list_all (λ n. nat_lt n (2 ^ 8)) bytes && nat_le (length bytes) 67_108_864,
)
judge (Value-F.Array t js) = (
  spell_step Little (Value-F.Array t (map spelled_of js)),
  λ at. not (is_byte t) && keeps_array t js (elements_at t at),
)
judge (Value-F.Struct js) = (
  spell_step Little (Value-F.Struct (map spelled_of js)),
  λ at. not (is_none js) && all_keep js (at + gap 8 at),
)
judge (Value-F.DictEntry k x) = (
  spell_step Little (Value-F.DictEntry k.0 x.0),
  λ at. all_keep (k ∷ x ∷ []) (at + gap 8 at),
)

abbrev pub judged : Value → Judged
judged = fold-Value Judged judge

-- The value keeps the rules as a variant, with the lowest byte of each number first: it is spelled,
-- and stands with all inside it in at most 64 arrays, structs, dict entries and variants.
abbrev pub is_spelled : Value → Bool
is_spelled datum =
    (judged (V.Variant datum)).1 0 && nat_le (nesting (V.Variant datum)) 64

-- A file descriptor means nothing beyond the message that brought it; so data with one is no data,
-- which is this project's own rule.
abbrev pub is_data : Value → Bool
is_data datum = is_spelled datum && not (holds_handle datum)

-- how many bytes the data has as a variant: none where it breaks a rule
abbrev pub data_bytes : Value → ℕ
data_bytes datum = cond (is_spelled datum) (length (spelling Little 0 (V.Variant datum))) 0
