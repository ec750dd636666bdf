-- Reading a value of a type from an offset, with the first break that is met. What is read from is
-- the offset and the list of the bytes from there on.
use Rattle.std.specs.Prelude.{ℕ, zero, suc, ◌+◌, ◌==◌, List, [], ◌∷◌, ◌++◌, length, filter, Option, Some, None, Result, Ok, Err, nat_lt, nat_le, if◌then◌else◌, Bool, true, false}
use Rattle.std.specs.Int.{Width, w16, w32, w64, cast_signed}
use Rattle.std.specs.List.{list_any}
use Rattle.std.specs.Str.{is_utf8}
use Rattle.dbus_types.specs.declared.types.Endian.{Endian}
use Rattle.dbus_types.specs.declared.types.WireType.{WireType, out-WireType}
use Rattle.dbus_types.specs.declared.types.WireType.TheOpen.{WireType-F}
use Rattle.dbus_types.specs.declared.types.WireType.TheVariants as W
use Rattle.dbus_types.specs.declared.types.Value.{Value, out-Value}
use Rattle.dbus_types.specs.declared.types.Value.TheOpen.{Value-F}
use Rattle.dbus_types.specs.declared.types.Value.TheVariants as V
use Rattle.dbus_basic.specs.declared.error.ReadError.{ReadError}
use Rattle.dbus_basic.specs.declared.error.ReadError.TheVariants.{Short, BadText, TooLong, BadSignature, TooDeep, Memory}
use Rattle.dbus_types.specs.declared.errors.SignatureError.{SignatureError}
use Rattle.dbus_types.specs.declared.errors.SignatureError.TheVariants as Stop
use Rattle.dbus_types.specs.Names.{is_path}
use Rattle.dbus_types.specs.Reading.{whole_at, single_at, passed}
use Rattle.dbus_types.specs.Types.{alignment}
use Rattle.dbus_values.specs.Values.{array_of}
pub use Rattle.dbus_marshal.specs.Breaks.{array_error}
use Rattle.dbus_basic.specs.Reading.{◌>>=◌, Read}
use Rattle.dbus_basic.specs.Fields.{padded, taken, number_at, byte_at, ended, truth}

-- UTF-8 without zero bytes
abbrev pub is_text : List ℕ → Bool
is_text text = if is_utf8 text then (if list_any (λ b. b == 0) text then false else true) else false

-- and the path of an object
abbrev pub is_path_text : List ℕ → Bool
is_path_text text = if is_text text then is_path text else false

-- a text, and the zero byte behind it
abbrev pub ended_with : List ℕ → ℕ → List ℕ → Read (List ℕ)
ended_with text at bytes = do
  last ← ended (BadText at) at bytes
  Ok (text, last.0, last.1)

-- a length, a text that is good, and a zero byte
unfoldable pub text_at : Endian → (List ℕ → Bool) → ℕ → List ℕ → Read (List ℕ)
text_at e good at bytes = do
  n ← number_at e w32 at bytes
  text ← taken n.0 n.1 n.2
  if good text.0 then ended_with text.0 text.1 text.2 else Err (BadText n.1)

-- what a signature's reading comes to where the signature begins at an offset
abbrev pub moved : {X : Type 0} → ℕ → Result X SignatureError → Result X ReadError
moved at (Ok x) = Ok x
moved at (Err (Stop.BadSignature k)) = Err (BadSignature (at + k))
moved at (Err (Stop.TooDeep k)) = Err (TooDeep (at + k))
moved at (Err Stop.Memory) = Err Memory

-- whether a signature stands there, and where it goes wrong
unfoldable pub checked_in : ℕ → List ℕ → Result (Unit {0}) ReadError
checked_in at text = moved at (passed (whole_at 32 32 text))

-- the one type of a variant's signature
unfoldable pub type_in : ℕ → List ℕ → Result WireType ReadError
type_in at text = moved at (single_at 32 32 text)

-- a signature, and the zero byte behind it
abbrev pub signature_with : List ℕ → ℕ → List ℕ → Read (List ℕ)
signature_with text at bytes = do
  last ← ended (BadSignature at) at bytes
  Ok (text, last.0, last.1)

-- a length in one byte, a signature, and a zero byte
unfoldable pub signature_at : ℕ → List ℕ → Read (List ℕ)
signature_at at bytes = do
  n ← byte_at at bytes
  text ← taken n.0 n.1 n.2
  checked ← checked_in n.1 text.0
  if is_text text.0 then signature_with text.0 text.1 text.2 else Err (BadSignature n.1)

-- a number of a width behind padding
abbrev pub padded_number : Endian → ℕ → Width → ℕ → List ℕ → Read ℕ
padded_number e to w at bytes = do
  start ← padded to at bytes
  number_at e w start.0 start.1

-- and the value that is made of it
abbrev pub numbered : Endian → ℕ → Width → (ℕ → Value) → ℕ → List ℕ → Read Value
numbered e to w make at bytes = do
  n ← padded_number e to w at bytes
  Ok (make n.0, n.1, n.2)

-- a text behind padding, and the value that is made of it
abbrev pub texted : Endian → (List ℕ → Bool) → (List ℕ → Value) → ℕ → List ℕ → Read Value
texted e good make at bytes = do
  start ← padded 4 at bytes
  text ← text_at e good start.0 start.1
  Ok (make text.0, text.1, text.2)

-- these values, and then those that were read
abbrev pub joined : List Value → Read (List Value) → Read (List Value)
joined vs (Ok more) = Ok (vs ++ more.0, more.1, more.2)
joined vs (Err e) = Err e

-- members one after another
unfoldable pub members : (WireType → ℕ → List ℕ → Read Value) → List WireType → ℕ → List ℕ
    → Read (List Value)
members r [] at bytes = Ok ([], at, bytes)
members r (t ∷ ts) at bytes = do
  first ← r t at bytes
  joined (first.0 ∷ []) (members r ts first.1 first.2)

abbrev pub listed : List Value → Result (List Value) ReadError → Result (List Value) ReadError
listed vs (Ok more) = Ok (vs ++ more)
listed vs (Err e) = Err e

-- values up to the end of the bytes, at most so many
unfoldable pub elements : ℕ → (ℕ → List ℕ → Read Value) → ℕ → List ℕ → Result (List Value) ReadError
elements n r at [] = Ok []
elements zero r at (b ∷ bytes) = Err (Short at)
elements (suc n) r at (b ∷ bytes) = do
  first ← r at (b ∷ bytes)
  listed (first.0 ∷ []) (elements n r first.1 first.2)

abbrev pub within_array : {X : Type 0} → Result X ReadError → Result X ReadError
within_array (Ok x) = Ok x
within_array (Err e) = Err (array_error e)

-- the array of the elements that were read
abbrev pub arrayed : WireType → Result (List Value) ReadError → Result Value ReadError
arrayed t (Ok vs) = Ok (array_of t vs)
arrayed t (Err e) = Err e

-- the types of numbers
unfoldable pub fixed : Endian → WireType-F WireType → ℕ → List ℕ → Read Value
fixed e WireType-F.I16 at bytes = numbered e 2 w16 (λ n. V.I16 (cast_signed w16 n)) at bytes
fixed e WireType-F.U16 at bytes = numbered e 2 w16 (λ n. V.U16 n) at bytes
fixed e WireType-F.I32 at bytes = numbered e 4 w32 (λ n. V.I32 (cast_signed w32 n)) at bytes
fixed e WireType-F.U32 at bytes = numbered e 4 w32 (λ n. V.U32 n) at bytes
fixed e WireType-F.I64 at bytes = numbered e 8 w64 (λ n. V.I64 (cast_signed w64 n)) at bytes
fixed e WireType-F.U64 at bytes = numbered e 8 w64 (λ n. V.U64 n) at bytes
fixed e WireType-F.Double at bytes = numbered e 8 w64 (λ n. V.Double n) at bytes
fixed e WireType-F.Handle at bytes = numbered e 4 w32 (λ n. V.Handle n) at bytes
fixed e _ at bytes = Err (TooDeep at)

-- the types with no value inside
unfoldable pub flat : Endian → WireType-F WireType → ℕ → List ℕ → Read Value
flat e WireType-F.Byte at bytes = do
  b ← byte_at at bytes
  Ok (V.Byte b.0, b.1, b.2)
flat e WireType-F.Bool at bytes = do
  start ← padded 4 at bytes
  n ← number_at e w32 start.0 start.1
  b ← truth start.0 n.0
  Ok (V.Bool b, n.1, n.2)
flat e WireType-F.Str at bytes = texted e is_text (λ text. V.Str text) at bytes
flat e WireType-F.ObjectPath at bytes = texted e is_path_text (λ text. V.ObjectPath text) at bytes
flat e WireType-F.Signature at bytes = do
  text ← signature_at at bytes
  Ok (V.Signature text.0, text.1, text.2)
flat e t at bytes = fixed e t at bytes

unfoldable pub layer : (WireType → ℕ → List ℕ → Read Value) → Endian → WireType-F WireType → ℕ
    → List ℕ → Read Value
layer r e (WireType-F.Array t) at bytes = do
  start ← padded 4 at bytes
  n ← number_at e w32 start.0 start.1
  if nat_lt 67_108_864 n.0 then Err (TooLong start.0) else do
    from ← padded (alignment t) n.1 n.2
    body ← taken n.0 from.0 from.1
    vs ← within_array (elements (length body.0) (r t) from.0 body.0)
    Ok (array_of t vs, body.1, body.2)
layer r e (WireType-F.Struct []) at bytes = Err (BadSignature at)
layer r e (WireType-F.Struct (t ∷ ts)) at bytes = do
  start ← padded 8 at bytes
  vs ← members r (t ∷ ts) start.0 start.1
  Ok (V.Struct vs.0, vs.1, vs.2)
layer r e (WireType-F.DictEntry t u) at bytes = do
  start ← padded 8 at bytes
  k ← r t start.0 start.1
  x ← r u k.1 k.2
  Ok (V.DictEntry k.0 x.0, x.1, x.2)
layer r e WireType-F.Variant at bytes = do
  n ← byte_at at bytes
  text ← taken n.0 n.1 n.2
  t ← type_in n.1 text.0
  last ← ended (BadSignature text.1) text.1 text.2
  x ← r t last.0 last.1
  Ok (V.Variant x.0, x.1, x.2)
layer r e t at bytes = flat e t at bytes

-- a value with at most so many values in each other, itself counted
unfoldable pub reads : ℕ → Endian → WireType → ℕ → List ℕ → Read Value
reads zero e t at bytes = Err (TooDeep at)
reads (suc n) e t at bytes = layer (reads n e) e (out-WireType t) at bytes

-- what a variant holds: the signature of one type, and a value of that type, which r reads
unfoldable pub inside_at : (WireType → ℕ → List ℕ → Read Value) → ℕ → List ℕ → Read Value
inside_at r at bytes = do
  n ← byte_at at bytes
  text ← taken n.0 n.1 n.2
  t ← type_in n.1 text.0
  last ← ended (BadSignature text.1) text.1 text.2
  r t last.0 last.1

-- a header field: its code and its value, in a struct of a byte and a variant
unfoldable pub field_at : Endian → ℕ → List ℕ → Read Value
field_at e at bytes = do
  start ← padded 8 at bytes
  code ← byte_at start.0 start.1
  x ← inside_at (reads 62 e) code.1 code.2
  Ok (V.Struct (V.Byte code.0 ∷ V.Variant x.0 ∷ []), x.1, x.2)

abbrev pub members_of : Value-F Value → List Value
members_of (Value-F.Struct vs) = vs
members_of _ = []

abbrev pub byte_of : Value-F Value → ℕ
byte_of (Value-F.Byte n) = n
byte_of _ = 0

abbrev pub first_of : List Value → ℕ
first_of [] = 0
first_of (v ∷ vs) = byte_of (out-Value v)

-- the code of a header field
abbrev pub field_code : Value → ℕ
field_code f = first_of (members_of (out-Value f))

-- the field's code is at most so high
abbrev pub has_code_to : ℕ → Value → Bool
has_code_to highest f = nat_le (field_code f) highest

-- a field whose code is at most so high, and of another nothing
abbrev pub kept : ℕ → Read Value → Read (Option Value)
kept highest (Ok x) = Ok (if has_code_to highest x.0 then Some x.0 else None, x.1, x.2)
kept highest (Err e) = Err e

-- the fields whose codes are at most so high
abbrev pub sifted : ℕ → Result (List Value) ReadError → Result (List Value) ReadError
sifted highest (Ok vs) = Ok (filter (has_code_to highest) vs)
sifted highest (Err e) = Err e

-- The array of the header fields, of which those are kept whose codes are at most so high: the
-- fields and their values are read as those of any other type.
unfoldable pub fields_at : ℕ → Endian → ℕ → List ℕ → Read (List Value)
fields_at highest e at bytes = do
  start ← padded 4 at bytes
  n ← number_at e w32 start.0 start.1
  if nat_lt 67_108_864 n.0 then Err (TooLong start.0) else do
    from ← padded 8 n.1 n.2
    body ← taken n.0 from.0 from.1
    vs ← within_array (sifted highest (elements (length body.0) (field_at e) from.0 body.0))
    Ok (vs, body.1, body.2)

-- the type of a header field
abbrev pub field_type : WireType
field_type = W.Struct (W.Byte ∷ W.Variant ∷ [])

-- the type of the header fields
abbrev pub fields_type : WireType
fields_type = W.Array field_type
