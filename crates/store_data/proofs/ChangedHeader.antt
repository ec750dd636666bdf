-- How long the header of the signal Changed is.
use Rattle.std.proofs.Common.{◌≡◌, ℕ, ◌+◌, nat_le, List, [], ◌∷◌, length, refl, sym, ap, ◌∙◌, arith}
use Rattle.std.specs.Prelude.{codes}
use Rattle.std.proofs.lemmas.Bool.Decides.{nat_tests}
use Rattle.dbus_types.specs.declared.types.Endian.TheVariants.{Little}
use Rattle.dbus_types.specs.declared.types.WireType.{WireType, the_lemmas as type_lemmas}
use Rattle.dbus_types.specs.declared.types.WireType.TheVariants as W
use Rattle.dbus_types.specs.declared.types.Value.{Value, the_lemmas}
use Rattle.dbus_types.specs.declared.types.Value.TheVariants as V
use Rattle.dbus_types.specs.Types.{alignment, type_text}
use Rattle.dbus_values.specs.Values.{type_of}
use Rattle.dbus_values.specs.Spells.{gap}
use Rattle.dbus_values.specs.Spelling.{Spelled, spelled_length, spelled_lengths}
use Rattle.dbus_values.proofs.OneSpelling.{roll_byte, roll_str, roll_path, roll_signature}
use Rattle.portal_model.specs.Changed.{changed_fields, changed_header, header_field, message_limit}
use Rattle.store_data.specs.Ends.{elements_at, inside_at}
use Rattle.store_data.proofs.EndLemmas.{on, struct-end, array-end, variant-end}

abbrev long : ℕ → Spelled → ℕ
long at s = at + length (s.1 at)

one_code : (v : Value) (t : WireType) (b : ℕ) → type_of v ≡ t → type_text t ≡ b ∷ [] → length (type_text (type_of v)) ≡ 1
one_code v t b e f = ap (λ (k : WireType). length (type_text k)) e ∙ ap length f

path_code : (s : List ℕ) → length (type_text (type_of (V.ObjectPath s))) ≡ 1
path_code s = one_code (V.ObjectPath s) W.ObjectPath 111 (search the_lemmas) (search type_lemmas)

str_code : (s : List ℕ) → length (type_text (type_of (V.Str s))) ≡ 1
str_code s = one_code (V.Str s) W.Str 115 (search the_lemmas) (search type_lemmas)

signature_code : (s : List ℕ) → length (type_text (type_of (V.Signature s))) ≡ 1
signature_code s = one_code (V.Signature s) W.Signature 103 (search the_lemmas) (search type_lemmas)

-- a field is a byte, and a variant whose type has one code
field-end : (at code : ℕ) (v : Value) → length (type_text (type_of v)) ≡ 1 → at + spelled_length at (header_field code v) ≡ (at + gap 8 at + 4) + spelled_length (at + gap 8 at + 4) v
field-end at code v one =
    let start : ℕ = at + gap 8 at in
    let byte : start + 1 ≡ start + spelled_length start (V.Byte code) = sym (ap (long start) (roll_byte Little code)) in
    let next : ℕ = (start + 1) + spelled_length (start + 1) (V.Variant v) in
    let whole : start + spelled_lengths start (V.Byte code ∷ V.Variant v ∷ []) ≡ at + spelled_length at (header_field code v) = struct-end at (V.Byte code ∷ V.Variant v ∷ []) in
    let first : (start + 1) + spelled_lengths (start + 1) (V.Variant v ∷ []) ≡ start + spelled_lengths start (V.Byte code ∷ V.Variant v ∷ []) = on start (start + 1) (V.Byte code) (V.Variant v ∷ []) byte in
    let second : next + 0 ≡ (start + 1) + spelled_lengths (start + 1) (V.Variant v ∷ []) = on (start + 1) next (V.Variant v) [] refl in
    let inside : inside_at (type_of v) (start + 1) ≡ start + 4 = omega arith in
    let moved : inside_at (type_of v) (start + 1) + spelled_length (inside_at (type_of v) (start + 1)) v ≡ (start + 4) + spelled_length (start + 4) v = ap (λ (n : ℕ). n + spelled_length n v) inside in
    let last : inside_at (type_of v) (start + 1) + spelled_length (inside_at (type_of v) (start + 1)) v ≡ next = variant-end (start + 1) v in
    omega arith

aligned_fields : alignment (W.Struct (W.Byte ∷ W.Variant ∷ [])) ≡ 8
aligned_fields = search type_lemmas

abbrev p : List ℕ
p = codes "/org/freedesktop/impl/portal/PermissionStore"

abbrev i : List ℕ
i = codes "org.freedesktop.impl.portal.PermissionStore"

abbrev m : List ℕ
m = codes "Changed"

abbrev s : List ℕ
s = codes "ssbva{sas}"

first-field : 69 ≡ 16 + spelled_length 16 (header_field 1 (V.ObjectPath p))
first-field = sym (field-end 16 1 (V.ObjectPath p) (path_code p) ∙ ap (long 20) (roll_path Little p))

second-field : 124 ≡ 69 + spelled_length 69 (header_field 2 (V.Str i))
second-field = sym (field-end 69 2 (V.Str i) (str_code i) ∙ ap (long 76) (roll_str Little i))

third-field : 144 ≡ 124 + spelled_length 124 (header_field 3 (V.Str m))
third-field = sym (field-end 124 3 (V.Str m) (str_code m) ∙ ap (long 132) (roll_str Little m))

fourth-field : 160 ≡ 144 + spelled_length 144 (header_field 8 (V.Signature s))
fourth-field = sym (field-end 144 8 (V.Signature s) (signature_code s) ∙ ap (long 148) (roll_signature Little s))

fields-end : 12 + spelled_length 12 changed_fields ≡ 160
fields-end =
    let kind : WireType = W.Struct (W.Byte ∷ W.Variant ∷ []) in
    let f : Value = header_field 1 (V.ObjectPath p) in
    let g : Value = header_field 2 (V.Str i) in
    let h : Value = header_field 3 (V.Str m) in
    let k : Value = header_field 8 (V.Signature s) in
    let fields : List Value = f ∷ g ∷ h ∷ k ∷ [] in
    let whole : 16 + spelled_lengths 16 fields ≡ 12 + spelled_length 12 (V.Array kind fields) =
    ap (λ (to : ℕ). elements_at to 12 + spelled_lengths (elements_at to 12) fields) (sym aligned_fields) ∙ array-end 12 kind fields in
    let a : 69 + spelled_lengths 69 (g ∷ h ∷ k ∷ []) ≡ 16 + spelled_lengths 16 fields = on 16 69 f (g ∷ h ∷ k ∷ []) first-field in
    let b : 124 + spelled_lengths 124 (h ∷ k ∷ []) ≡ 69 + spelled_lengths 69 (g ∷ h ∷ k ∷ []) = on 69 124 g (h ∷ k ∷ []) second-field in
    let c : 144 + spelled_lengths 144 (k ∷ []) ≡ 124 + spelled_lengths 124 (h ∷ k ∷ []) = on 124 144 h (k ∷ []) third-field in
    let d : 160 ≡ 144 + spelled_lengths 144 (k ∷ []) = on 144 160 k [] fourth-field in
    sym (d ∙ (c ∙ (b ∙ (a ∙ whole))))

header-is : changed_header ≡ 160
header-is = ap (λ (n : ℕ). n + gap 8 n) fields-end

room : (header end body : ℕ) → header ≡ 160 → end ≡ body → nat_le end 16777056 ≡ nat_le (header + body) 16777216
room header end body h e = grind (arith, nat_tests)

pub told-within : (end body : ℕ) → end ≡ body → nat_le end 16777056 ≡ nat_le (changed_header + body) message_limit
told-within end body e = room changed_header end body header-is e
