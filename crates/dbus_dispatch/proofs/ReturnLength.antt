-- How long a return is.
use Rattle.std.proofs.Common.{◌≡◌, ℕ, ◌+◌, ◌<◌, ◌≤◌, Bool, true, false, List, [], ◌∷◌, ◌++◌, length, map, replicate, refl, sym, ap, subst, ◌∙◌, arith}
use Rattle.std.specs.Prelude.{nat_le, ◌==◌}
use Rattle.std.specs.Int.{w8, w32, to_le_bytes}
use Rattle.portal_model.specs.Changed.{message_limit}
use Rattle.std.proofs.lemmas.Bool.{le-leb, eqb-true}
use Rattle.std.proofs.lemmas.List.{length-append, length-replicate, append_assoc}
use Rattle.std.proofs.lemmas.List.Elements.{All-nil, All-cons}
use Rattle.dbus_types.specs.declared.types.Endian.TheVariants.{Little}
use Rattle.dbus_types.specs.declared.types.WireType.{the_lemmas as type_lemmas}
use Rattle.dbus_types.specs.declared.types.Value.{Value}
use Rattle.dbus_types.specs.declared.types.Value.TheVariants as V
use Rattle.dbus_types.specs.declared.types.Value.TheOpen.{Value-F}
use Rattle.dbus_types.specs.declared.message.OutMessage.TheVariants.{Return}
use Rattle.dbus_types.specs.Types.{alignment, type_text, types_text}
use Rattle.dbus_values.specs.Values.{type_of}
use Rattle.dbus_values.specs.Spells.{number, gap}
use Rattle.dbus_values.specs.Spelling.{aligned, in_row, array_body, Spelled, spell_step, spelled, spelling, spellings}
use Rattle.dbus_values.proofs.OneSpelling.{roll_byte, roll_u32, roll_signature, roll_variant, roll_array, roll_struct}
use Rattle.dbus_marshal.proofs.TakenFronts.{four, number_len}
use Rattle.dbus_message.specs.Fields.{field_type, return_kind}
use Rattle.dbus_message.specs.Written.{field, signature_field, message_bytes}
use Rattle.dbus_message.proofs.WriteMessage.{whole_len}
use Rattle.dbus_dispatch.proofs.Lengths.{HasCode, Below, below_u32, below_field, below_array, code_u32, code_signature, gap_small}

-- ---- values, one after another

-- one more value behind those that are written
pub spelled_more : (bytes : List ℕ) (v : Value) (rest : List Value) (all : List ℕ) → bytes ++ spellings Little (length bytes) (v ∷ rest) ≡ all
    → (bytes ++ spelling Little (length bytes) v) ++ spellings Little (length (bytes ++ spelling Little (length bytes) v)) rest ≡ all
spelled_more bytes v rest all before =
    let first : List ℕ = spelling Little (length bytes) v in
    subst (λ (n : ℕ). (bytes ++ first) ++ spellings Little n rest ≡ all) (sym (length-append bytes first))
    (append_assoc bytes first (spellings Little (length bytes + length first) rest) ∙ before)

-- ---- exact lengths at an offset

exact_as : (v : Value) (s : Spelled) (at k : ℕ) → spelled Little v ≡ s → length (s.1 at) ≡ k → length (spelling Little at v) ≡ k
exact_as v s at k is h = subst (λ (x : Spelled). length (x.1 at) ≡ k) (sym is) h

aligned_exact : (to : ℕ) (body : ℕ → List ℕ) (at k : ℕ) → gap to at ≡ 0 → length (body at) ≡ k → length (aligned to body at) ≡ k
aligned_exact to body at k none h =
    let here : at ≡ at + gap to at = omega (arith, none) in
    let moved : length (body (at + gap to at)) ≡ k = subst (λ (n : ℕ). length (body n) ≡ k) here h in
    omega (arith, none, moved, length-append (replicate (gap to at) 0) (body (at + gap to at)), length-replicate {A = ℕ} (gap to at) 0)

byte_exact : (n at : ℕ) → length (spelling Little at (V.Byte n)) ≡ 1
byte_exact n at = exact_as (V.Byte n) (spell_step Little (Value-F.Byte n)) at 1 (roll_byte Little n) refl

u32_exact : (n at : ℕ) → gap 4 at ≡ 0 → length (spelling Little at (V.U32 n)) ≡ 4
u32_exact n at none = exact_as (V.U32 n) (spell_step Little (Value-F.U32 n)) at 4 (roll_u32 Little n) (aligned_exact 4 (λ start. number Little w32 n) at 4 none (number_len Little four n))

signature_exact : (text : List ℕ) (at : ℕ) → length (spelling Little at (V.Signature text)) ≡ length text + 2
signature_exact text at =
    exact_as (V.Signature text) (spell_step Little (Value-F.Signature text)) at (length text + 2) (roll_signature Little text)
    (omega (arith, length-append (to_le_bytes w8 (length text)) (text ++ 0 ∷ []), length-append text (0 ∷ [])))

variant_exact : (v : Value) (at k : ℕ) → HasCode v → length (spelling Little (at + 3) v) ≡ k → length (spelling Little at (V.Variant v)) ≡ k + 3
variant_exact v at k one h =
    let text : List ℕ = type_text (spelled Little v).0 in
    let here : at + 3 ≡ at + (1 + length text + 1) = omega (arith, one) in
    let moved : length (spelling Little (at + (1 + length text + 1)) v) ≡ k = subst (λ (n : ℕ). length (spelling Little n v) ≡ k) here h in
    exact_as (V.Variant v) (spell_step Little (Value-F.Variant (spelled Little v))) at (k + 3) (roll_variant Little v)
    (omega (
      arith,
      one,
      moved,
      length-append (to_le_bytes w8 (length text)) (text ++ 0 ∷ spelling Little (at + (1 + length text + 1)) v),
      length-append text (0 ∷ spelling Little (at + (1 + length text + 1)) v),
    ))

two_exact : (a b : Value) (at j k : ℕ) → length (spelling Little at a) ≡ j → length (spelling Little (at + j) b) ≡ k → length (in_row (spelled Little a ∷ spelled Little b ∷ []) at) ≡ j + k
two_exact a b at j k h g =
    let first : List ℕ = spelling Little at a in
    let second : List ℕ = spelling Little (at + length first) b in
    let moved : length second ≡ k = subst (λ (n : ℕ). length (spelling Little (at + n) b) ≡ k) (sym h) g in
    omega (arith, h, moved, length-append first (second ++ []), length-append second [])

field_exact : (code : ℕ) (v : Value) (at k : ℕ) → gap 8 at ≡ 0 → HasCode v → length (spelling Little (at + 1 + 3) v) ≡ k → length (spelling Little at (field code v)) ≡ k + 4
field_exact code v at k none one h =
    let a : Value = V.Byte code in
    let b : Value = V.Variant v in
    let inside : length (in_row (spelled Little a ∷ spelled Little b ∷ []) at) ≡ k + 4 = two_exact a b at 1 (k + 3) (byte_exact code at) (variant_exact v (at + 1) k one h) ∙ omega arith in
    exact_as (V.Struct (a ∷ b ∷ [])) (spell_step Little (Value-F.Struct (spelled Little a ∷ spelled Little b ∷ []))) at (k + 4) (roll_struct Little (a ∷ b ∷ []))
    (aligned_exact 8 (in_row (spelled Little a ∷ spelled Little b ∷ [])) at (k + 4) none inside)

-- an array of fields begins at byte 12 of a message, and the first of them at byte 16
fields_exact : (f g : Value) (j k : ℕ) → length (spelling Little 16 f) ≡ j → length (spelling Little (16 + j) g) ≡ k → length (spelling Little 12 (V.Array field_type (f ∷ g ∷ []))) ≡ 4 + (j + k)
fields_exact f g j k h i =
    exact_as (V.Array field_type (f ∷ g ∷ [])) (spell_step Little (Value-F.Array field_type row)) 12 (4 + (j + k)) (roll_array Little field_type (f ∷ g ∷ []))
    (aligned_exact 4 (array_body Little (alignment field_type) row) 12 (4 + (j + k)) refl (subst (λ (to : ℕ). length (array_body Little to row 12) ≡ 4 + (j + k)) (sym by_eight) inside))
  where
    row : List Spelled
    row = spelled Little f ∷ spelled Little g ∷ []

    by_eight : alignment field_type ≡ 8
    by_eight = search type_lemmas

    inside : length (array_body Little 8 row 12) ≡ 4 + (j + k)
    inside = omega (arith, two_exact f g 16 j k h i, length-append (number Little w32 (length (in_row row 16))) (in_row row 16), number_len Little four (length (in_row row 16)))

-- ---- returns

-- with values
pub return_exact : (to : ℕ) (v : Value) (vs : List Value) (n : ℕ) → length (types_text (map type_of (v ∷ vs))) ≡ n
    → length (message_bytes (Return to (v ∷ vs)) 1) ≡ 30 + n + gap 8 (30 + n) + length (spellings Little 0 (v ∷ vs))
return_exact to v vs n is =
    let text : List ℕ = types_text (map type_of (v ∷ vs)) in
    let f : Value = field 5 (V.U32 to) in
    let g : Value = signature_field (v ∷ vs) in
    let F : List ℕ = spelling Little 12 (V.Array field_type (f ∷ g ∷ [])) in
    let first : length (spelling Little 16 f) ≡ 8 = field_exact 5 (V.U32 to) 16 4 refl (code_u32 to) (u32_exact to 20 refl) in
    let second : length (spelling Little 24 g) ≡ n + 2 + 4 = field_exact 8 (V.Signature text) 24 (n + 2) refl (code_signature text) (signature_exact text 28 ∙ ap (λ (m : ℕ). m + 2) is) in
    let fields : 12 + length F ≡ 30 + n = omega (arith, fields_exact f g 8 (n + 2 + 4) first second) in
    subst (λ (m : ℕ). length (message_bytes (Return to (v ∷ vs)) 1) ≡ m + gap 8 m + length (spellings Little 0 (v ∷ vs))) fields (whole_len return_kind 1 F (spellings Little 0 (v ∷ vs)))

-- without
pub empty_fits : (to : ℕ) → length (message_bytes (Return to []) 1) ≤ 16_777_216
empty_fits to =
    let f : Value = field 5 (V.U32 to) in
    let F : List ℕ = spelling Little 12 (V.Array field_type (f ∷ [])) in
    let short : Below 20 f = below_field 5 (V.U32 to) 8 (code_u32 to) (below_u32 to) in
    omega (
      arith,
      whole_len return_kind 1 F [],
      below_array field_type (f ∷ []) 20 some few (All-cons (Below 20) f [] short (All-nil (Below 20))) 12,
      gap_small 8 (12 + length F) (omega arith),
    )
  where
    by_eight : alignment field_type ≡ 8
    by_eight = search type_lemmas

    some : 0 < alignment field_type
    some = omega (arith, by_eight)

    few : alignment field_type ≤ 8
    few = omega (arith, by_eight)

-- ---- the limit

pub empty_within : (to : ℕ) (body : List Value) → true ≡ (length body == 0) → true ≡ nat_le (length (message_bytes (Return to body) 1)) message_limit
empty_within to [] e = let le : length (message_bytes (Return to []) 1) ≤ 16_777_216 = empty_fits to in sym (le-leb (length (message_bytes (Return to []) 1)) 16_777_216 le)
empty_within to (v ∷ vs) e = absurd (omega (arith, eqb-true (length (v ∷ vs)) 0 (sym e)))

pub body_within : (to : ℕ) (body : List Value) (n k : ℕ) (b : Bool) → false ≡ (length body == 0) → n ≡ length (types_text (map type_of body)) → k ≡ length (spellings Little 0 body)
    → b ≡ nat_le (30 + n + gap 8 (30 + n) + k) message_limit → b ≡ nat_le (length (message_bytes (Return to body) 1)) message_limit
body_within to [] n k b some signature values is = absurd cc
body_within to (v ∷ vs) n k b some signature values is =
    let exact : length (message_bytes (Return to (v ∷ vs)) 1) ≡ 30 + n + gap 8 (30 + n) + k = return_exact to v vs n (sym signature) ∙ ap (λ (m : ℕ). 30 + n + gap 8 (30 + n) + m) (sym values) in
    is ∙ ap (λ (m : ℕ). nat_le m message_limit) (sym exact)
