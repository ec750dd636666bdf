-- The bodies of answers keep the rules of values, and are short.
use Rattle.std.proofs.Common.{◌≡◌, ℕ, suc, ◌+◌, ◌<◌, ◌≤◌, ◌^◌, max, true, List, [], ◌∷◌, ◌++◌, length, refl, sym, ap, subst, ◌∙◌, arith}
use Rattle.std.specs.Prelude.{All, IsTrue, codes}
use Rattle.std.proofs.lemmas.List.{length-append}
use Rattle.std.proofs.lemmas.List.Elements.{All-nil, All-cons, All-append, All-weaker}
use Rattle.dbus_types.specs.declared.types.Endian.TheVariants.{Little}
use Rattle.dbus_types.specs.declared.types.WireType.{WireType, the_lemmas as type_lemmas}
use Rattle.dbus_types.specs.declared.types.WireType.TheVariants as W
use Rattle.dbus_types.specs.declared.types.Value.{Value, out-Value, the_lemmas}
use Rattle.dbus_types.specs.declared.types.Value.TheOpen.{Value-F}
use Rattle.dbus_types.specs.declared.types.Value.TheVariants as V
use Rattle.dbus_types.specs.declared.roles.Role.{Role}
use Rattle.dbus_types.specs.declared.roles.Role.TheVariants.{Basic, Single}
use Rattle.dbus_types.specs.Types.{is_single, array_role, entry_role, role, arrays_deep, brackets_deep, alignment, type_text, IsValidType, IsVariantType}
use Rattle.dbus_values.specs.Values.{type_of, IsText, ValueKeeps, KeepsWithin, KeepsRules}
use Rattle.dbus_types.proofs.TypeLayers.{text_array, text_entry, role_array, role_entry, role_byte, arrays_array, arrays_entry, brackets_array, brackets_entry}
use Rattle.dbus_values.proofs.PackedBytes.{entry_no_byte}
use Rattle.dbus_values.specs.Spelling.{spellings}
use Rattle.dbus_message.specs.Written.{IsGoodBody}
use Rattle.dbus_message.proofs.Ascii.{member_text}
use Rattle.dbus_calls.specs.declared.interface.Interface.{Interface}
use Rattle.dbus_calls.specs.declared.interface.Interface.TheVariants as I
use Rattle.dbus_calls.specs.Tables.{Property, version, properties_of}
use Rattle.dbus_dispatch.specs.Properties.{variant_of, dictionary}
use Rattle.dbus_dispatch.specs.Asks.{closed_bytes}
use Rattle.dbus_dispatch.proofs.Lengths.{Below, below_more, below_bytes, below_u32, below_str, below_variant, below_entry, below_array, code_u32, total, each_length}

-- ---- types

pub role_str : role W.Str ≡ Basic
role_str = search type_lemmas

pub role_u32 : role W.U32 ≡ Basic
role_u32 = search type_lemmas

pub role_variant : role W.Variant ≡ Single
role_variant = search type_lemmas

pub arrays_u32 : arrays_deep W.U32 ≡ 0
arrays_u32 = search type_lemmas

pub arrays_byte : arrays_deep W.Byte ≡ 0
arrays_byte = search type_lemmas

pub arrays_str : arrays_deep W.Str ≡ 0
arrays_str = search type_lemmas

pub arrays_variant : arrays_deep W.Variant ≡ 0
arrays_variant = search type_lemmas

pub brackets_u32 : brackets_deep W.U32 ≡ 0
brackets_u32 = search type_lemmas

pub brackets_byte : brackets_deep W.Byte ≡ 0
brackets_byte = search type_lemmas

pub brackets_str : brackets_deep W.Str ≡ 0
brackets_str = search type_lemmas

pub brackets_variant : brackets_deep W.Variant ≡ 0
brackets_variant = search type_lemmas

pub text_u32 : type_text W.U32 ≡ 117 ∷ []
text_u32 = search type_lemmas

pub text_byte : type_text W.Byte ≡ 121 ∷ []
text_byte = search type_lemmas

pub text_str : type_text W.Str ≡ 115 ∷ []
text_str = search type_lemmas

pub text_variant : type_text W.Variant ≡ 118 ∷ []
text_variant = search type_lemmas

pub valid : (t : WireType) (r : Role) (a b : ℕ) → role t ≡ r → is_single r ≡ true → arrays_deep t ≡ a → brackets_deep t ≡ b → a ≤ 32 → b ≤ 32 → IsValidType t
valid t r a b stands single arrays brackets small short = (subst (λ (x : Role). IsTrue (is_single x)) (sym stands) single, omega (arith, arrays, small), omega (arith, brackets, short))

number_type : IsVariantType W.U32
number_type = (valid W.U32 Basic 0 0 role_u32 refl arrays_u32 brackets_u32 (omega arith) (omega arith), omega (arith, ap length text_u32))

variant_type : IsValidType W.Variant
variant_type = valid W.Variant Single 0 0 role_variant refl arrays_variant brackets_variant (omega arith) (omega arith)

bytes_type : IsValidType (W.Array W.Byte)
bytes_type = valid (W.Array W.Byte) Single 1 0 (role_array W.Byte ∙ ap array_role role_byte) refl (omega (arith, arrays_array W.Byte, arrays_byte)) (omega (arith, brackets_array W.Byte, brackets_byte)) (omega arith) (omega arith)

-- `{sv}`
abbrev entry_type : WireType
entry_type = W.DictEntry W.Str W.Variant

entries_type : IsValidType (W.Array entry_type)
entries_type =
    let stands : role (W.Array entry_type) ≡ Single = role_array entry_type ∙ ap array_role (role_entry W.Str W.Variant ∙ (λ i. entry_role (role_str i) (role_variant i))) in
    let arrays : arrays_deep entry_type ≡ 0 = arrays_entry W.Str W.Variant ∙ (λ i. max (arrays_str i) (arrays_variant i)) in
    let brackets : brackets_deep entry_type ≡ 1 = brackets_entry W.Str W.Variant ∙ (λ i. max (brackets_str i) (brackets_variant i) + 1) in
    valid (W.Array entry_type) Single 1 1 stands refl (omega (arith, arrays_array entry_type, arrays)) (omega (arith, brackets_array entry_type, brackets)) (omega arith) (omega arith)

pub type_u32 : (n : ℕ) → type_of (V.U32 n) ≡ W.U32
type_u32 n = search the_lemmas

pub type_byte : (n : ℕ) → type_of (V.Byte n) ≡ W.Byte
type_byte n = search the_lemmas

pub type_str : (text : List ℕ) → type_of (V.Str text) ≡ W.Str
type_str text = search the_lemmas

pub type_variant : (v : Value) → type_of (V.Variant v) ≡ W.Variant
type_variant v = search the_lemmas

pub type_array : (t : WireType) (vs : List Value) → type_of (V.Array t vs) ≡ W.Array t
type_array t vs = search the_lemmas

pub type_bytes : (bytes : List ℕ) → type_of (V.Bytes bytes) ≡ W.Array W.Byte
type_bytes bytes = search the_lemmas

pub type_entry : (k v : Value) → type_of (V.DictEntry k v) ≡ W.DictEntry (type_of k) (type_of v)
type_entry k v = search the_lemmas

out_u32 : (n : ℕ) → out-Value (V.U32 n) ≡ Value-F.U32 n
out_u32 n = search the_lemmas

out_byte : (n : ℕ) → out-Value (V.Byte n) ≡ Value-F.Byte n
out_byte n = search the_lemmas

out_str : (text : List ℕ) → out-Value (V.Str text) ≡ Value-F.Str text
out_str text = search the_lemmas

pub out_variant : (v : Value) → out-Value (V.Variant v) ≡ Value-F.Variant v
out_variant v = search the_lemmas

out_array : (t : WireType) (vs : List Value) → out-Value (V.Array t vs) ≡ Value-F.Array t vs
out_array t vs = search the_lemmas

out_bytes : (bytes : List ℕ) → out-Value (V.Bytes bytes) ≡ Value-F.Bytes bytes
out_bytes bytes = search the_lemmas

out_entry : (k v : Value) → out-Value (V.DictEntry k v) ≡ Value-F.DictEntry k v
out_entry k v = search the_lemmas

-- ---- the values keep the rules

pub number_keeps : (d n : ℕ) → n < 2 ^ 32 → KeepsWithin (suc d) (V.U32 n)
unfolding KeepsWithin
number_keeps d n h = subst (ValueKeeps (KeepsWithin d)) (sym (out_u32 n)) h

variant_keeps : (d n : ℕ) → n < 2 ^ 32 → KeepsWithin (suc (suc d)) (variant_of n)
unfolding KeepsWithin
variant_keeps d n h = subst (ValueKeeps (KeepsWithin (suc d))) (sym (out_variant (V.U32 n))) (subst IsVariantType (sym (type_u32 n)) number_type, number_keeps d n h)

pub byte_keeps : (d n : ℕ) → n < 256 → KeepsWithin (suc d) (V.Byte n)
unfolding KeepsWithin
byte_keeps d n h = subst (ValueKeeps (KeepsWithin d)) (sym (out_byte n)) h

pub str_keeps : (d : ℕ) (text : List ℕ) → IsText text → KeepsWithin (suc d) (V.Str text)
unfolding KeepsWithin
str_keeps d text h = subst (ValueKeeps (KeepsWithin d)) (sym (out_str text)) h

pub array_keeps : (d : ℕ) (t : WireType) (vs : List Value) → (t ≡ W.Byte → ⊥) → All (λ v. (type_of v ≡ t) × KeepsWithin d v) vs → KeepsWithin (suc d) (V.Array t vs)
unfolding KeepsWithin
array_keeps d t vs none h = subst (ValueKeeps (KeepsWithin d)) (sym (out_array t vs)) (none, h)

pub bytes_keep : (d : ℕ) (bytes : List ℕ) → All (λ b. b < 256) bytes → KeepsWithin (suc (suc d)) (V.Bytes bytes)
unfolding KeepsWithin
bytes_keep d bytes h = subst (ValueKeeps (KeepsWithin (suc d))) (sym (out_bytes bytes)) (All-weaker (λ b. b < 256) (λ b. KeepsWithin (suc d) (V.Byte b)) (byte_keeps d) bytes h)

pub entry_keeps : (d : ℕ) (k v : Value) → KeepsWithin d k → KeepsWithin d v → KeepsWithin (suc d) (V.DictEntry k v)
unfolding KeepsWithin
entry_keeps d k v h g = subst (ValueKeeps (KeepsWithin d)) (sym (out_entry k v)) (h, g)

-- ---- bodies

-- The body keeps the rules, and takes at most 8,192 bytes.
abbrev pub IsShortBody : List Value → Type 0
IsShortBody body = IsGoodBody body × (length (spellings Little 0 body) ≤ 8192)

pub none_short : IsShortBody []
none_short = ((All-nil KeepsRules, omega arith), omega arith)

one_short : (v : Value) (t : WireType) (n k : ℕ) → type_of v ≡ t → IsValidType t → length (type_text t) ≤ n → n ≤ 255 → KeepsWithin 64 v → Below k v → k ≤ 8192 → IsShortBody (v ∷ [])
one_short v t n k is good text small keeps below short = (
  (
    All-cons KeepsRules v [] (subst IsValidType (sym is) good, keeps) (All-nil KeepsRules),
    omega (arith, length-append (type_text (type_of v)) [], ap (λ (u : WireType). length (type_text u)) is, text, small),
  ),
  omega (arith, each_length k (v ∷ []) (All-cons (Below k) v [] below (All-nil (Below k))) 0, short),
)

below_number : (n : ℕ) → Below 11 (variant_of n)
below_number n = below_variant (V.U32 n) 8 (code_u32 n) (below_u32 n)

pub variant_short : (n : ℕ) → n < 2 ^ 32 → IsShortBody (variant_of n ∷ [])
variant_short n h = one_short (variant_of n) W.Variant 1 11 (type_variant (V.U32 n)) variant_type (omega (arith, ap length text_variant)) (omega arith) (variant_keeps 62 n h) (below_number n) (omega arith)

alignment_entry : alignment entry_type ≡ 8
alignment_entry = search type_lemmas

pub bytes_short : (bytes : List ℕ) → All (λ b. b < 256) bytes → length bytes ≤ 4095 → IsShortBody (closed_bytes bytes ∷ [])
bytes_short bytes h le =
    let closed : List ℕ = bytes ++ 0 ∷ [] in
    let all : All (λ b. b < 256) closed = All-append (λ b. b < 256) bytes (0 ∷ []) h (All-cons (λ b. b < 256) 0 [] (omega arith) (All-nil (λ b. b < 256))) in
    one_short (closed_bytes bytes) (W.Array W.Byte) 2 (length closed + 8) (type_bytes closed) bytes_type
    (omega (arith, ap length (text_array W.Byte), ap length text_byte)) (omega arith) (bytes_keep 62 closed all) (below_bytes closed) (omega (arith, length-append bytes (0 ∷ []), le))

-- an entry of a dictionary
abbrev entry_of : Property → Value
entry_of property = V.DictEntry (V.Str property.name) (variant_of property.value)

abbrev IsEntry : Value → Type 0
IsEntry v = (type_of v ≡ entry_type) × KeepsWithin 63 v

version_entry : (n : ℕ) → n < 2 ^ 32 → IsEntry (entry_of (version n))
version_entry n h = (
  type_entry (V.Str (codes "version")) (variant_of n) ∙ (λ i. W.DictEntry (type_str (codes "version") i) (type_variant (V.U32 n) i)),
  entry_keeps 62 (V.Str (codes "version")) (variant_of n) (str_keeps 61 (codes "version") (member_text (codes "version") refl)) (variant_keeps 60 n h),
)

version_below : (n : ℕ) → Below 40 (entry_of (version n))
version_below n = below_more (8 + ((7 + 9) + 11)) 40 (entry_of (version n)) (omega arith) (below_entry (V.Str (codes "version")) (variant_of n) (7 + 9) 11 (below_str (codes "version") 7 (omega arith)) (below_number n))

entries_short : (vs : List Value) → All IsEntry vs → All (Below 40) vs → total 40 vs ≤ 40 → IsShortBody (V.Array entry_type vs ∷ [])
entries_short vs kept below le =
    let text : length (type_text (W.Array entry_type)) ≡ 5 =
    ap length (text_array entry_type ∙ (λ i. 97 ∷ (text_entry W.Str W.Variant ∙ (λ j. 123 ∷ (text_str j ++ (text_variant j ++ 125 ∷ [])))) i)) in
    one_short (V.Array entry_type vs) (W.Array entry_type) 5 (total 40 vs + 16) (type_array entry_type vs) entries_type (omega (arith, text)) (omega arith) (array_keeps 63 entry_type vs (entry_no_byte W.Str W.Variant) kept)
    (below_array entry_type vs 40 (omega (arith, alignment_entry)) (omega (arith, alignment_entry)) below) (omega (arith, le))

no_entries : IsShortBody (V.Array entry_type [] ∷ [])
no_entries = entries_short [] (All-nil IsEntry) (All-nil (Below 40)) (omega arith)

one_entry : (n : ℕ) → n < 2 ^ 32 → IsShortBody (V.Array entry_type (entry_of (version n) ∷ []) ∷ [])
one_entry n h =
    entries_short (entry_of (version n) ∷ []) (All-cons IsEntry (entry_of (version n)) [] (version_entry n h) (All-nil IsEntry))
    (All-cons (Below 40) (entry_of (version n)) [] (version_below n) (All-nil (Below 40))) (omega arith)

pub dictionary_short : (interface : Interface) → IsShortBody (dictionary (properties_of interface) ∷ [])
dictionary_short I.Documents = one_entry 4 (omega arith)
dictionary_short I.PermissionStore = one_entry 2 (omega arith)
dictionary_short I.Files = no_entries
dictionary_short I.Properties = no_entries
dictionary_short I.Peer = no_entries
