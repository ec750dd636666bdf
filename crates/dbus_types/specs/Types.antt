-- What the D-Bus Specification says of types ("Type System"; "Marshaling" for the alignments).
use Rattle.std.specs.Prelude.{◌≡◌, ℕ, ◌+◌, ◌≤◌, max, List, [], ◌∷◌, ◌++◌, length, Bool, true, false, IsTrue, All}
use Rattle.dbus_types.specs.declared.types.WireType.{WireType, out-WireType, fold-WireType}
use Rattle.dbus_types.specs.declared.types.WireType.TheOpen.{WireType-F}
use Rattle.dbus_types.specs.declared.roles.Role.{Role}
use Rattle.dbus_types.specs.declared.roles.Role.TheVariants.{Basic, Single, Entry, Nowhere}

-- ## Where a type may stand

-- as a single complete type
abbrev pub is_single : Role → Bool
is_single Basic = true
is_single Single = true
is_single Entry = false
is_single Nowhere = false

-- an array holds any type, a dict entry too
abbrev pub array_role : Role → Role
array_role Nowhere = Nowhere
array_role _ = Single

-- the members of a struct are single complete types
abbrev pub members_role : List Role → Role
members_role [] = Single
members_role (Basic ∷ rs) = members_role rs
members_role (Single ∷ rs) = members_role rs
members_role (_ ∷ rs) = Nowhere

-- and there is at least one
abbrev pub struct_role : List Role → Role
struct_role [] = Nowhere
struct_role (r ∷ rs) = members_role (r ∷ rs)

-- a dict entry's key is basic, its value a single complete type
abbrev pub entry_role : Role → Role → Role
entry_role Basic Basic = Entry
entry_role Basic Single = Entry
entry_role _ _ = Nowhere

abbrev pub role_step : WireType-F Role → Role
role_step WireType-F.Variant = Single
role_step (WireType-F.Array r) = array_role r
role_step (WireType-F.Struct rs) = struct_role rs
role_step (WireType-F.DictEntry k v) = entry_role k v
role_step _ = Basic

abbrev pub role : WireType → Role
role = fold-WireType Role role_step

abbrev pub IsComplete : WireType → Type 0
IsComplete t = IsTrue (is_single (role t))

-- ## How deep a type goes

abbrev pub greatest : List ℕ → ℕ
greatest [] = 0
greatest (n ∷ ns) = max n (greatest ns)

abbrev pub arrays_step : WireType-F ℕ → ℕ
arrays_step (WireType-F.Array n) = n + 1
arrays_step (WireType-F.Struct ns) = greatest ns
arrays_step (WireType-F.DictEntry k v) = max k v
arrays_step _ = 0

-- how many arrays stand in each other
abbrev pub arrays_deep : WireType → ℕ
arrays_deep = fold-WireType ℕ arrays_step

abbrev pub brackets_step : WireType-F ℕ → ℕ
brackets_step (WireType-F.Array n) = n
brackets_step (WireType-F.Struct ns) = greatest ns + 1
brackets_step (WireType-F.DictEntry k v) = max k v + 1
brackets_step _ = 0

-- how many parentheses and braces, counted together, stand in each other
abbrev pub brackets_deep : WireType → ℕ
brackets_deep = fold-WireType ℕ brackets_step

-- A single complete type within so many arrays and so many parentheses and braces.
abbrev pub Fits : ℕ → ℕ → WireType → Type 0
Fits arrays brackets t = IsComplete t × (arrays_deep t ≤ arrays) × (brackets_deep t ≤ brackets)

-- A type that keeps the rules: "the maximum depth of container type nesting is 32 array type codes
-- and 32 open parentheses".
abbrev pub IsValidType : WireType → Type 0
IsValidType = Fits 32 32

-- ## The text of a type

-- one text after the other
abbrev pub joined : List (List ℕ) → List ℕ
joined [] = []
joined (s ∷ ss) = s ++ joined ss

abbrev pub text_step : WireType-F (List ℕ) → List ℕ
text_step WireType-F.Byte = 121 ∷ []
text_step WireType-F.Bool = 98 ∷ []
text_step WireType-F.I16 = 110 ∷ []
text_step WireType-F.U16 = 113 ∷ []
text_step WireType-F.I32 = 105 ∷ []
text_step WireType-F.U32 = 117 ∷ []
text_step WireType-F.I64 = 120 ∷ []
text_step WireType-F.U64 = 116 ∷ []
text_step WireType-F.Double = 100 ∷ []
text_step WireType-F.Str = 115 ∷ []
text_step WireType-F.ObjectPath = 111 ∷ []
text_step WireType-F.Signature = 103 ∷ []
text_step WireType-F.Handle = 104 ∷ []
text_step WireType-F.Variant = 118 ∷ []
text_step (WireType-F.Array s) = 97 ∷ s
text_step (WireType-F.Struct ss) = 40 ∷ (joined ss ++ 41 ∷ [])
text_step (WireType-F.DictEntry k v) = 123 ∷ (k ++ (v ++ 125 ∷ []))

-- `a` stands before the type of an array's element, `(` and `)` round those of a struct's members,
-- `{` and `}` round those of a dict entry
abbrev pub type_text : WireType → List ℕ
type_text = fold-WireType (List ℕ) text_step

-- the text of a list of types: the texts of its types, one after the other
abbrev pub types_text : List WireType → List ℕ
types_text [] = []
types_text (t ∷ ts) = type_text t ++ types_text ts

-- The text is the signature of the types: it spells them, each keeps the rules, and it has at most
-- 255 bytes.
abbrev pub IsSignature : List WireType → List ℕ → Type 0
IsSignature ts text = (text ≡ types_text ts) × All IsValidType ts × (length text ≤ 255)

-- The type of a variant's value: its signature is of this type alone.
abbrev pub IsVariantType : WireType → Type 0
IsVariantType t = IsValidType t × (length (type_text t) ≤ 255)

-- ## How a type's values lie

abbrev pub alignment_of : WireType-F WireType → ℕ
alignment_of WireType-F.Byte = 1
alignment_of WireType-F.I16 = 2
alignment_of WireType-F.U16 = 2
alignment_of WireType-F.I64 = 8
alignment_of WireType-F.U64 = 8
alignment_of WireType-F.Double = 8
alignment_of WireType-F.Signature = 1
alignment_of WireType-F.Variant = 1
alignment_of (WireType-F.Struct ts) = 8
alignment_of (WireType-F.DictEntry k v) = 8
alignment_of _ = 4

-- the offset of a value is a multiple of this
abbrev pub alignment : WireType → ℕ
alignment t = alignment_of (out-WireType t)
