-- A message that may be written has a spelling.
use Rattle.std.proofs.Common.{◌≡◌, ℕ, ◌+◌, ◌<◌, ◌≤◌, ◌^◌, true, List, [], ◌∷◌, ◌++◌, length, map, refl, sym, ap, subst, ◌∙◌, arith}
use Rattle.std.specs.Prelude.{All, IsTrue}
use Rattle.std.proofs.lemmas.List.{length-append}
use Rattle.std.proofs.lemmas.List.Elements.{All-nil, All-cons, All-head, All-tail, All-map, All-weaker}
use Rattle.dbus_types.specs.declared.types.Endian.TheVariants.{Little}
use Rattle.dbus_types.specs.declared.types.WireType.{WireType, the_lemmas as type_lemmas}
use Rattle.dbus_types.specs.declared.types.WireType.TheVariants as W
use Rattle.dbus_types.specs.declared.types.Value.{Value, out-Value, the_lemmas}
use Rattle.dbus_types.specs.declared.types.Value.TheOpen.{Value-F}
use Rattle.dbus_types.specs.declared.types.Value.TheVariants as V
use Rattle.dbus_types.specs.declared.message.OutMessage.{OutMessage}
use Rattle.dbus_types.specs.declared.message.OutMessage.TheVariants.{Return, Error, Signal}
use Rattle.dbus_types.specs.declared.roles.Role.{Role}
use Rattle.dbus_types.specs.declared.roles.Role.TheVariants.{Basic, Single}
use Rattle.dbus_types.specs.Names.{is_path, is_interface_name}
use Rattle.dbus_types.specs.Types.{is_single, struct_role, array_role, role, greatest, arrays_deep, brackets_deep, type_text, types_text, IsValidType, IsVariantType, IsSignature}
use Rattle.dbus_values.specs.Values.{type_of, IsText, IsSignatureText, ValueKeeps, KeepsWithin, KeepsRules}
use Rattle.dbus_types.proofs.TypeLayers.{role_byte, role_array, role_struct, arrays_array, arrays_struct, brackets_array, brackets_struct}
use Rattle.dbus_values.proofs.PackedBytes.{struct_no_byte}
use Rattle.dbus_values.specs.Spells.{Spells, Members}
use Rattle.dbus_values.specs.Spelling.{spelling, spellings}
use Rattle.dbus_marshal.proofs.EveryValueIsSpelled.{every_spelled}
use Rattle.dbus_message.specs.Fields.{field_type}
use Rattle.dbus_message.specs.Written.{field, signature_field, last_part, kind_out, body_out, return_fields, fields_out, message_bytes, IsWritten, IsGoodBody, KeepsKinds, CanWrite}
use Rattle.dbus_message.proofs.Ascii.{interface_text, member_text, last_text}
use Rattle.dbus_message.proofs.Bodies.{Spelled}
use Rattle.dbus_message.proofs.Tables.{HasNames, out_struct, out_byte, out_variant, out_u32, out_str, out_path, out_signature}
use Rattle.dbus_message.proofs.WriteMessage.{whole_len}

-- ---- types

leaf_type : (t : WireType) (r : Role) (c : ℕ) → role t ≡ r → is_single r ≡ true → arrays_deep t ≡ 0 → brackets_deep t ≡ 0 → type_text t ≡ c ∷ [] → IsVariantType t
leaf_type t r c stands single arrays brackets text = ((subst (λ (x : Role). IsTrue (is_single x)) (sym stands) single, omega (arith, arrays), omega (arith, brackets)), omega (arith, ap length text))

text_str : type_text W.Str ≡ 115 ∷ []
text_str = search type_lemmas

leaf_str : IsVariantType W.Str
leaf_str = leaf_type W.Str Basic 115 (search type_lemmas) refl (search type_lemmas) (search type_lemmas) text_str

leaf_path : IsVariantType W.ObjectPath
leaf_path = leaf_type W.ObjectPath Basic 111 (search type_lemmas) refl (search type_lemmas) (search type_lemmas) (search type_lemmas)

leaf_signature : IsVariantType W.Signature
leaf_signature = leaf_type W.Signature Basic 103 (search type_lemmas) refl (search type_lemmas) (search type_lemmas) (search type_lemmas)

leaf_u32 : IsVariantType W.U32
leaf_u32 = leaf_type W.U32 Basic 117 (search type_lemmas) refl (search type_lemmas) (search type_lemmas) (search type_lemmas)

role_variant : role W.Variant ≡ Single
role_variant = search type_lemmas

arrays_byte : arrays_deep W.Byte ≡ 0
arrays_byte = search type_lemmas

arrays_variant : arrays_deep W.Variant ≡ 0
arrays_variant = search type_lemmas

brackets_byte : brackets_deep W.Byte ≡ 0
brackets_byte = search type_lemmas

brackets_variant : brackets_deep W.Variant ≡ 0
brackets_variant = search type_lemmas

fields_type : IsValidType (W.Array field_type)
fields_type =
    let one : role field_type ≡ Single = role_struct (W.Byte ∷ W.Variant ∷ []) ∙ (λ i. struct_role (role_byte i ∷ role_variant i ∷ [])) in
    let stands : role (W.Array field_type) ≡ Single = role_array field_type ∙ ap array_role one in
    let arrays : arrays_deep field_type ≡ 0 = arrays_struct (W.Byte ∷ W.Variant ∷ []) ∙ (λ i. greatest (arrays_byte i ∷ arrays_variant i ∷ [])) in
    let brackets : brackets_deep field_type ≡ 1 = brackets_struct (W.Byte ∷ W.Variant ∷ []) ∙ (λ i. greatest (brackets_byte i ∷ brackets_variant i ∷ []) + 1) in
    (subst (λ (r : Role). IsTrue (is_single r)) (sym stands) refl, omega (arith, arrays_array field_type, arrays), omega (arith, brackets_array field_type, brackets))

type_str : (text : List ℕ) → type_of (V.Str text) ≡ W.Str
type_str text = search the_lemmas

type_path : (text : List ℕ) → type_of (V.ObjectPath text) ≡ W.ObjectPath
type_path text = search the_lemmas

type_signature : (text : List ℕ) → type_of (V.Signature text) ≡ W.Signature
type_signature text = search the_lemmas

type_u32 : (n : ℕ) → type_of (V.U32 n) ≡ W.U32
type_u32 n = search the_lemmas

type_byte : (n : ℕ) → type_of (V.Byte n) ≡ W.Byte
type_byte n = search the_lemmas

type_variant : (v : Value) → type_of (V.Variant v) ≡ W.Variant
type_variant v = search the_lemmas

type_struct : (vs : List Value) → type_of (V.Struct vs) ≡ W.Struct (map type_of vs)
type_struct vs = search the_lemmas

type_array : (t : WireType) (vs : List Value) → type_of (V.Array t vs) ≡ W.Array t
type_array t vs = search the_lemmas

out_array : (t : WireType) (vs : List Value) → out-Value (V.Array t vs) ≡ Value-F.Array t vs
out_array t vs = search the_lemmas

-- ---- the values of fields keep the rules, and a variant can carry them

abbrev Leaf : Value → Type 0
Leaf v = IsVariantType (type_of v) × KeepsWithin 61 v

carried : (v : Value) (t : WireType) → type_of v ≡ t → IsVariantType t → IsVariantType (type_of v)
carried v t e k = subst IsVariantType (sym e) k

str_keeps : (text : List ℕ) → IsText text → Leaf (V.Str text)
unfolding KeepsWithin
str_keeps text h = (carried (V.Str text) W.Str (type_str text) leaf_str, subst (ValueKeeps (KeepsWithin 60)) (sym (out_str text)) h)

path_keeps : (text : List ℕ) → IsTrue (is_path text) → Leaf (V.ObjectPath text)
unfolding KeepsWithin
path_keeps text h = (carried (V.ObjectPath text) W.ObjectPath (type_path text) leaf_path, subst (ValueKeeps (KeepsWithin 60)) (sym (out_path text)) h)

signature_keeps : (text : List ℕ) → IsSignatureText text → Leaf (V.Signature text)
unfolding KeepsWithin
signature_keeps text h = (carried (V.Signature text) W.Signature (type_signature text) leaf_signature, subst (ValueKeeps (KeepsWithin 60)) (sym (out_signature text)) h)

number_keeps : (n : ℕ) → n < 2 ^ 32 → Leaf (V.U32 n)
unfolding KeepsWithin
number_keeps n h = (carried (V.U32 n) W.U32 (type_u32 n) leaf_u32, subst (ValueKeeps (KeepsWithin 60)) (sym (out_u32 n)) h)

byte_keeps : (n : ℕ) → n < 2 ^ 8 → KeepsWithin 62 (V.Byte n)
unfolding KeepsWithin
byte_keeps n h = subst (ValueKeeps (KeepsWithin 61)) (sym (out_byte n)) h

variant_keeps : (v : Value) → Leaf v → KeepsWithin 62 (V.Variant v)
unfolding KeepsWithin
variant_keeps v h = subst (ValueKeeps (KeepsWithin 61)) (sym (out_variant v)) h

struct_keeps : (vs : List Value) → All (KeepsWithin 62) vs → KeepsWithin 63 (V.Struct vs)
unfolding KeepsWithin
struct_keeps vs h = subst (ValueKeeps (KeepsWithin 62)) (sym (out_struct vs)) h

-- ---- fields

abbrev Kept : Value → Type 0
Kept f = (type_of f ≡ field_type) × KeepsWithin 63 f

field_keeps : (code : ℕ) (v : Value) → code < 2 ^ 8 → Leaf v → Kept (field code v)
field_keeps code v small h = (
  type_struct (V.Byte code ∷ V.Variant v ∷ []) ∙ (λ i. W.Struct (type_byte code i ∷ type_variant v i ∷ [])),
  struct_keeps (V.Byte code ∷ V.Variant v ∷ []) (All-cons (KeepsWithin 62) (V.Byte code) (V.Variant v ∷ []) (byte_keeps code small) (All-cons (KeepsWithin 62) (V.Variant v) [] (variant_keeps v h) (All-nil (KeepsWithin 62)))),
)

pub good_signature : (body : List Value) → IsGoodBody body → IsSignature (map type_of body) (types_text (map type_of body))
good_signature body h = (refl, All-map IsValidType type_of body (All-weaker KeepsRules (λ v. IsValidType (type_of v)) (λ v k. k.0) body h.0), h.1)

signature_kept : (body : List Value) → IsGoodBody body → Kept (signature_field body)
signature_kept body h = field_keeps 8 _ (omega arith) (signature_keeps (types_text (map type_of body)) (map type_of body, good_signature body h))

text_keeps : (text : List ℕ) → IsText text → KeepsWithin 64 (V.Str text)
unfolding KeepsWithin
text_keeps text h = subst (ValueKeeps (KeepsWithin 63)) (sym (out_str text)) h

-- the body of an error
pub part_good : (name : List ℕ) → IsTrue (is_interface_name name) → IsGoodBody (V.Str (last_part name) ∷ [])
part_good name h =
    let text : List ℕ = last_part name in
    let t = type_str text in
    let valid = carried (V.Str text) W.Str t leaf_str in
    let kept : KeepsRules (V.Str text) = (valid.0, text_keeps text (last_text name h)) in
    (All-cons KeepsRules (V.Str text) [] kept (All-nil KeepsRules), omega (arith, length-append (type_text (type_of (V.Str text))) [], ap length (ap type_text t), ap length text_str))

pub body_good : (out : OutMessage) → KeepsKinds out → IsGoodBody (body_out out)
body_good (Return to body) h = h.1
body_good (Error to name) h = part_good name h.1
body_good (Signal path interface member body) h = h.3

pub names_good : (out : OutMessage) → KeepsKinds out → HasNames out
names_good (Return to body) h = tt
names_good (Error to name) h = h.1
names_good (Signal path interface member body) h = (h.0, h.1, h.2)

all_1 : (a : Value) → Kept a → All Kept (a ∷ [])
all_1 a k = All-cons Kept a [] k (All-nil Kept)

all_2 : (a b : Value) → Kept a → Kept b → All Kept (a ∷ b ∷ [])
all_2 a b k l = All-cons Kept a (b ∷ []) k (all_1 b l)

all_3 : (a b c : Value) → Kept a → Kept b → Kept c → All Kept (a ∷ b ∷ c ∷ [])
all_3 a b c k l m = All-cons Kept a (b ∷ c ∷ []) k (all_2 b c l m)

all_4 : (a b c d : Value) → Kept a → Kept b → Kept c → Kept d → All Kept (a ∷ b ∷ c ∷ d ∷ [])
all_4 a b c d k l m n = All-cons Kept a (b ∷ c ∷ d ∷ []) k (all_3 b c d l m n)

return_kept : (to : ℕ) (body : List Value) → to < 2 ^ 32 → IsGoodBody body → All Kept (return_fields to body)
return_kept to [] h g = all_1 (field 5 (V.U32 to)) (field_keeps 5 (V.U32 to) (omega arith) (number_keeps to h))
return_kept to (v ∷ vs) h g = all_2 (field 5 (V.U32 to)) (signature_field (v ∷ vs)) (field_keeps 5 (V.U32 to) (omega arith) (number_keeps to h)) (signature_kept (v ∷ vs) g)

fields_kept : (out : OutMessage) → KeepsKinds out → All Kept (fields_out out)
fields_kept (Return to body) h = return_kept to body h.0 h.1
fields_kept (Error to name) h =
    all_3 (field 4 (V.Str name)) (field 5 (V.U32 to)) (signature_field (V.Str (last_part name) ∷ []))
    (field_keeps 4 (V.Str name) (omega arith) (str_keeps name (interface_text name h.1))) (field_keeps 5 (V.U32 to) (omega arith) (number_keeps to h.0)) (signature_kept (V.Str (last_part name) ∷ []) (part_good name h.1))
fields_kept (Signal path interface member body) h =
    all_4 (field 1 (V.ObjectPath path)) (field 2 (V.Str interface)) (field 3 (V.Str member)) (signature_field body)
    (field_keeps 1 (V.ObjectPath path) (omega arith) (path_keeps path h.0)) (field_keeps 2 (V.Str interface) (omega arith) (str_keeps interface (interface_text interface h.1)))
    (field_keeps 3 (V.Str member) (omega arith) (str_keeps member (member_text member h.2))) (signature_kept body h.3)

array_keeps : (fs : List Value) → All Kept fs → KeepsRules (V.Array field_type fs)
unfolding KeepsWithin
array_keeps fs h = (subst IsValidType (sym (type_array field_type fs)) fields_type, subst (ValueKeeps (KeepsWithin 63)) (sym (out_array field_type fs)) (struct_no_byte (W.Byte ∷ W.Variant ∷ []), h))

-- ---- spellings

spelled_body : (vs : List Value) (at : ℕ) → All KeepsRules vs → length (spellings Little at vs) ≤ 67_108_864 → Members (Spelled Little) (map type_of vs) vs at (spellings Little at vs)
spelled_body [] at h small = refl
spelled_body (v ∷ vs) at h small =
    let text : List ℕ = spelling Little at v in
    let rest : List ℕ = spellings Little (at + length text) vs in
    let len : length (text ++ rest) ≡ length text + length rest = length-append text rest in
    (text, rest, refl, every_spelled Little at v (All-head KeepsRules v vs h) (omega (arith, len, small)), spelled_body vs (at + length text) (All-tail KeepsRules v vs h) (omega (arith, len, small)))

-- What may be written is spelled by its bytes.
pub is_spelled : (out : OutMessage) (serial : ℕ) → CanWrite out serial → IsWritten out serial (message_bytes out serial)
is_spelled out serial can =
    let array : Value = V.Array field_type (fields_out out) in
    let F : List ℕ = spelling Little 12 array in
    let B : List ℕ = spellings Little 0 (body_out out) in
    let len = whole_len (kind_out out) serial F B in
    let fields = every_spelled Little 12 array (array_keeps (fields_out out) (fields_kept out can.1)) (omega (arith, len, can.2)) in
    (F, B, subst (λ (t : WireType). Spells Little 12 t array F) (type_array field_type (fields_out out)) fields, spelled_body (body_out out) 0 (body_good out can.1).0 (omega (arith, len, can.2)), refl)
