-- What the D-Bus Specification says of values ("Type System").
use Rattle.std.specs.Prelude.{◌≡◌, ℕ, zero, suc, ◌+◌, ◌<◌, ◌^◌, max, List, [], ◌∷◌, map, IsTrue, IsUtf8, All, FitsSigned}
use Rattle.std.specs.Int.{w16, w32, w64}
use Rattle.dbus_types.specs.declared.types.WireType.{WireType, out-WireType}
use Rattle.dbus_types.specs.declared.types.WireType.TheOpen.{WireType-F}
use Rattle.dbus_types.specs.declared.types.WireType.TheVariants as W
use Rattle.dbus_types.specs.declared.types.Value.{Value, out-Value, fold-Value}
use Rattle.dbus_types.specs.declared.types.Value.TheOpen.{Value-F}
use Rattle.dbus_types.specs.declared.types.Value.TheVariants as V
use Rattle.dbus_types.specs.Types.{greatest, IsValidType, IsVariantType, IsSignature}
use Rattle.dbus_types.specs.Names.{is_path}

abbrev pub type_step : Value-F WireType → WireType
type_step (Value-F.Byte n) = W.Byte
type_step (Value-F.Bool b) = W.Bool
type_step (Value-F.I16 n) = W.I16
type_step (Value-F.U16 n) = W.U16
type_step (Value-F.I32 n) = W.I32
type_step (Value-F.U32 n) = W.U32
type_step (Value-F.I64 n) = W.I64
type_step (Value-F.U64 n) = W.U64
type_step (Value-F.Double n) = W.Double
type_step (Value-F.Str t) = W.Str
type_step (Value-F.ObjectPath t) = W.ObjectPath
type_step (Value-F.Signature t) = W.Signature
type_step (Value-F.Handle n) = W.Handle
type_step (Value-F.Variant v) = W.Variant
type_step (Value-F.Bytes bytes) = W.Array W.Byte
type_step (Value-F.Array t vs) = W.Array t
type_step (Value-F.Struct ts) = W.Struct ts
type_step (Value-F.DictEntry k v) = W.DictEntry k v

-- the type of a value
abbrev pub type_of : Value → WireType
type_of = fold-Value WireType type_step

abbrev pub byte_in : Value-F Value → ℕ
byte_in (Value-F.Byte n) = n
byte_in _ = 0

-- the number of a byte; 0 of any other value
abbrev pub byte_of : Value → ℕ
byte_of v = byte_in (out-Value v)

abbrev pub array_layer : WireType-F WireType → WireType → List Value → Value
array_layer WireType-F.Byte t vs = V.Bytes (map byte_of vs)
array_layer _ t vs = V.Array t vs

-- the array of values of a type: bytes are packed, and no others
abbrev pub array_of : WireType → List Value → Value
array_of t vs = array_layer (out-WireType t) t vs

-- UTF-8 without zero bytes
abbrev pub IsText : List ℕ → Type 0
IsText text = IsUtf8 text × All (λ b. b ≡ 0 → ⊥) text

-- the text of a list of types
abbrev pub IsSignatureText : List ℕ → Type 0
IsSignatureText text = (ts : List WireType) × IsSignature ts text

-- a value that holds no other, and keeps the rules; a number fits its type
abbrev pub LeafKeeps : Value-F Value → Type 0
LeafKeeps (Value-F.Byte n) = n < 2 ^ 8
LeafKeeps (Value-F.I16 z) = FitsSigned w16 z
LeafKeeps (Value-F.U16 n) = n < 2 ^ 16
LeafKeeps (Value-F.I32 z) = FitsSigned w32 z
LeafKeeps (Value-F.U32 n) = n < 2 ^ 32
LeafKeeps (Value-F.I64 z) = FitsSigned w64 z
LeafKeeps (Value-F.U64 n) = n < 2 ^ 64
LeafKeeps (Value-F.Double n) = n < 2 ^ 64
LeafKeeps (Value-F.Handle n) = n < 2 ^ 32
LeafKeeps (Value-F.Str text) = IsText text
LeafKeeps (Value-F.ObjectPath text) = IsTrue (is_path text)
LeafKeeps (Value-F.Signature text) = IsSignatureText text
LeafKeeps (Value-F.Variant v) = ⊥
LeafKeeps (Value-F.Bytes bytes) = ⊥
LeafKeeps (Value-F.Array t vs) = ⊥
LeafKeeps (Value-F.Struct vs) = ⊥
LeafKeeps (Value-F.DictEntry k v) = ⊥
LeafKeeps (Value-F.Bool b) = Unit {0}

-- The rules of one value, where Inside says what those inside it keep: each item of an array has
-- the type of the array's element, bytes are packed, and a variant's value has a type whose
-- signature a variant can carry.
abbrev pub ValueKeeps : (Value → Type 0) → Value-F Value → Type 0
ValueKeeps Inside (Value-F.Variant v) = IsVariantType (type_of v) × Inside v
ValueKeeps Inside (Value-F.Bytes bytes) = All (λ n. Inside (V.Byte n)) bytes
ValueKeeps Inside (Value-F.Array t vs) = (t ≡ W.Byte → ⊥) × All (λ v. (type_of v ≡ t) × Inside v) vs
ValueKeeps Inside (Value-F.Struct vs) = All Inside vs
ValueKeeps Inside (Value-F.DictEntry k v) = Inside k × Inside v
ValueKeeps Inside leaf = LeafKeeps leaf

-- A value and those inside it keep the rules, and each of these stands in at most so many arrays,
-- structs, dict entries and variants of it: in none where nothing is inside, as in an empty array.
unfoldable pub KeepsWithin : ℕ → Value → Type 0
KeepsWithin zero v = ValueKeeps (λ inside. ⊥) (out-Value v)
KeepsWithin (suc depth) v = ValueKeeps (KeepsWithin depth) (out-Value v)

-- A value that keeps the rules: its type keeps those of types, the values inside keep theirs, and
-- each stands in at most 64 arrays, structs, dict entries and variants, itself not counted.
abbrev pub KeepsRules : Value → Type 0
KeepsRules v = IsValidType (type_of v) × KeepsWithin 64 v

-- the greatest of the numbers of those inside, and one more for what they stand in
abbrev pub one_around : List ℕ → ℕ
one_around [] = 0
one_around (n ∷ ns) = greatest (n ∷ ns) + 1

abbrev pub nesting_step : Value-F ℕ → ℕ
nesting_step (Value-F.Variant n) = n + 1
nesting_step (Value-F.Bytes []) = 0
nesting_step (Value-F.Bytes (b ∷ bs)) = 1
nesting_step (Value-F.Array t ns) = one_around ns
nesting_step (Value-F.Struct ns) = one_around ns
nesting_step (Value-F.DictEntry k v) = max k v + 1
nesting_step _ = 0

-- in how many arrays, structs, dict entries and variants of a value the innermost of those inside
-- it stands: in none where nothing is inside, as in an empty array
abbrev pub nesting : Value → ℕ
nesting = fold-Value ℕ nesting_step
