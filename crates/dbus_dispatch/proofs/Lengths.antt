-- How many bytes the spellings of values take at most.
use Rattle.std.proofs.Common.{◌≡◌, ℕ, ◌+◌, ◌<◌, ◌≤◌, List, [], ◌∷◌, ◌++◌, length, map, replicate, sym, ap, subst, ◌∙◌, arith}
use Rattle.std.specs.Prelude.{All}
use Rattle.std.specs.Int.{w8, w32, to_le_bytes}
use Rattle.std.proofs.lemmas.Nat.{mod_below}
use Rattle.std.proofs.lemmas.List.{length-append, length-replicate}
use Rattle.std.proofs.lemmas.List.Elements.{All-head, All-tail}
use Rattle.dbus_types.specs.declared.types.Endian.TheVariants.{Little}
use Rattle.dbus_types.specs.declared.types.WireType.{WireType, the_lemmas as type_lemmas}
use Rattle.dbus_types.specs.declared.types.WireType.TheVariants as W
use Rattle.dbus_types.specs.declared.types.Value.{Value}
use Rattle.dbus_types.specs.declared.types.Value.TheVariants as V
use Rattle.dbus_types.specs.declared.types.Value.TheOpen.{Value-F}
use Rattle.dbus_types.specs.Types.{alignment, type_text}
use Rattle.dbus_values.specs.Spells.{number, gap}
use Rattle.dbus_values.specs.Spelling.{aligned, in_row, text_body, array_body, bytes_body, Spelled, spell_step, spelled, spelling, spellings}
use Rattle.dbus_marshal.proofs.TakenFronts.{four, number_len}
use Rattle.dbus_values.proofs.OneSpelling.{roll_byte, roll_u32, roll_str, roll_signature, roll_variant, roll_array, roll_bytes, roll_struct, roll_entry}
use Rattle.dbus_message.specs.Written.{field}

-- at each offset the value takes at most so many bytes
abbrev pub Below : ℕ → Value → Type 0
Below k v = (at : ℕ) → length (spelling Little at v) ≤ k

pub below_more : (j k : ℕ) (v : Value) → j ≤ k → Below j v → Below k v
below_more j k v le h at = omega (arith, le, h at)

below_as : (v : Value) (s : Spelled) (k : ℕ) → spelled Little v ≡ s → ((at : ℕ) → length (s.1 at) ≤ k) → Below k v
below_as v s k is h at = subst (λ (x : Spelled). length (x.1 at) ≤ k) (sym is) (h at)

-- the type of the value is one code
abbrev pub HasCode : Value → Type 0
HasCode v = length (type_text (spelled Little v).0) ≡ 1

coded : (v : Value) (s : Spelled) (c : ℕ) → spelled Little v ≡ s → type_text s.0 ≡ c ∷ [] → HasCode v
coded v s c is text = ap (λ (x : Spelled). length (type_text x.0)) is ∙ ap length text

text_u32 : type_text W.U32 ≡ 117 ∷ []
text_u32 = search type_lemmas

text_str : type_text W.Str ≡ 115 ∷ []
text_str = search type_lemmas

text_signature : type_text W.Signature ≡ 103 ∷ []
text_signature = search type_lemmas

pub gap_small : (to at : ℕ) → 0 < to → gap to at < to
gap_small to at h = mod_below _ to h

aligned_length : (to : ℕ) (body : ℕ → List ℕ) (k : ℕ) → 0 < to → ((start : ℕ) → length (body start) ≤ k) → (at : ℕ) → length (aligned to body at) ≤ to + k
aligned_length to body k h short at = omega (
  arith,
  length-append (replicate (gap to at) 0) (body (at + gap to at)),
  length-replicate {A = ℕ} (gap to at) 0,
  gap_small to at h,
  short (at + gap to at),
)

pub below_byte : (n : ℕ) → Below 1 (V.Byte n)
below_byte n = below_as (V.Byte n) (spell_step Little (Value-F.Byte n)) 1 (roll_byte Little n) (λ at. omega arith)

pub below_u32 : (n : ℕ) → Below 8 (V.U32 n)
below_u32 n = below_as (V.U32 n) (spell_step Little (Value-F.U32 n)) 8 (roll_u32 Little n) (aligned_length 4 (λ start. number Little w32 n) 4 (omega arith) (λ start. omega (arith, number_len Little four n)))

pub code_u32 : (n : ℕ) → HasCode (V.U32 n)
code_u32 n = coded (V.U32 n) (spell_step Little (Value-F.U32 n)) 117 (roll_u32 Little n) text_u32

text_length : (text : List ℕ) → length (text_body Little text) ≤ length text + 5
text_length text = omega (arith, length-append (number Little w32 (length text)) (text ++ 0 ∷ []), number_len Little four (length text), length-append text (0 ∷ []))

pub below_str : (text : List ℕ) (n : ℕ) → length text ≤ n → Below (n + 9) (V.Str text)
below_str text n le =
    below_as (V.Str text) (spell_step Little (Value-F.Str text)) (n + 9) (roll_str Little text)
    (λ at. omega (arith, le, aligned_length 4 (λ start. text_body Little text) (length text + 5) (omega arith) (λ start. text_length text) at))

pub code_str : (text : List ℕ) → HasCode (V.Str text)
code_str text = coded (V.Str text) (spell_step Little (Value-F.Str text)) 115 (roll_str Little text) text_str

pub below_signature : (text : List ℕ) (n : ℕ) → length text ≤ n → Below (n + 2) (V.Signature text)
below_signature text n le =
    below_as (V.Signature text) (spell_step Little (Value-F.Signature text)) (n + 2) (roll_signature Little text)
    (λ at. omega (arith, le, length-append (to_le_bytes w8 (length text)) (text ++ 0 ∷ []), length-append text (0 ∷ [])))

pub code_signature : (text : List ℕ) → HasCode (V.Signature text)
code_signature text = coded (V.Signature text) (spell_step Little (Value-F.Signature text)) 103 (roll_signature Little text) text_signature

pub below_variant : (v : Value) (k : ℕ) → HasCode v → Below k v → Below (k + 3) (V.Variant v)
below_variant v k one h =
    let text : List ℕ = type_text (spelled Little v).0 in
    below_as (V.Variant v) (spell_step Little (Value-F.Variant (spelled Little v))) (k + 3) (roll_variant Little v)
    (λ at. omega (
      arith,
      one,
      h (at + (1 + length text + 1)),
      length-append (to_le_bytes w8 (length text)) (text ++ 0 ∷ spelling Little (at + (1 + length text + 1)) v),
      length-append text (0 ∷ spelling Little (at + (1 + length text + 1)) v),
    ))

-- two values, one after the other
two_length : (a b : Value) (j k : ℕ) → Below j a → Below k b → (at : ℕ) → length (in_row (spelled Little a ∷ spelled Little b ∷ []) at) ≤ j + k
two_length a b j k h g at =
    let first : List ℕ = spelling Little at a in
    let second : List ℕ = spelling Little (at + length first) b in
    omega (arith, h at, g (at + length first), length-append first (second ++ []), length-append second [])

pub below_pair : (a b : Value) (j k : ℕ) → Below j a → Below k b → Below (8 + (j + k)) (V.Struct (a ∷ b ∷ []))
below_pair a b j k h g =
    below_as (V.Struct (a ∷ b ∷ [])) (spell_step Little (Value-F.Struct (spelled Little a ∷ spelled Little b ∷ []))) (8 + (j + k)) (roll_struct Little (a ∷ b ∷ []))
    (aligned_length 8 (in_row (spelled Little a ∷ spelled Little b ∷ [])) (j + k) (omega arith) (two_length a b j k h g))

pub below_entry : (a b : Value) (j k : ℕ) → Below j a → Below k b → Below (8 + (j + k)) (V.DictEntry a b)
below_entry a b j k h g =
    below_as (V.DictEntry a b) (spell_step Little (Value-F.DictEntry (spelled Little a) (spelled Little b))) (8 + (j + k)) (roll_entry Little a b)
    (aligned_length 8 (in_row (spelled Little a ∷ spelled Little b ∷ [])) (j + k) (omega arith) (two_length a b j k h g))

-- so many bytes for each value
abbrev pub total : ℕ → List Value → ℕ
total k [] = 0
total k (v ∷ vs) = k + total k vs

pub each_length : (k : ℕ) (vs : List Value) → All (Below k) vs → (at : ℕ) → length (spellings Little at vs) ≤ total k vs
each_length k [] h at = omega arith
each_length k (v ∷ vs) h at =
    let first : List ℕ = spelling Little at v in
    omega (arith, All-head (Below k) v vs h at, each_length k vs (All-tail (Below k) v vs h) (at + length first), length-append first (spellings Little (at + length first) vs))

pub below_array : (t : WireType) (vs : List Value) (k : ℕ) → 0 < alignment t → alignment t ≤ 8 → All (Below k) vs → Below (total k vs + 16) (V.Array t vs)
below_array t vs k some small h =
    below_as (V.Array t vs) (spell_step Little (Value-F.Array t (map (spelled Little) vs))) (total k vs + 16) (roll_array Little t vs)
    (λ at. omega (arith, aligned_length 4 (array_body Little (alignment t) (map (spelled Little) vs)) (total k vs + 12) (omega arith) inside at))
  where
    inside : (start : ℕ) → length (array_body Little (alignment t) (map (spelled Little) vs) start) ≤ total k vs + 12
    inside start =
        let pad : ℕ = gap (alignment t) (start + 4) in
        let items : List ℕ = spellings Little (start + 4 + pad) vs in
        omega (
          arith,
          small,
          gap_small (alignment t) (start + 4) some,
          each_length k vs h (start + 4 + pad),
          length-append (number Little w32 (length items)) (replicate pad 0 ++ items),
          number_len Little four (length items),
          length-append (replicate pad 0) items,
          length-replicate {A = ℕ} pad 0,
        )

pub below_bytes : (bytes : List ℕ) → Below (length bytes + 8) (V.Bytes bytes)
below_bytes bytes =
    below_as (V.Bytes bytes) (spell_step Little (Value-F.Bytes bytes)) (length bytes + 8) (roll_bytes Little bytes)
    (λ at. omega (arith, aligned_length 4 (λ start. bytes_body Little bytes) (length bytes + 4) (omega arith) inside at))
  where
    inside : (start : ℕ) → length (bytes_body Little bytes) ≤ length bytes + 4
    inside start = omega (arith, length-append (number Little w32 (length bytes)) bytes, number_len Little four (length bytes))

pub below_field : (number : ℕ) (v : Value) (k : ℕ) → HasCode v → Below k v → Below (k + 12) (field number v)
below_field number v k one h = below_more (8 + (1 + (k + 3))) (k + 12) (field number v) (omega arith) (below_pair (V.Byte number) (V.Variant v) 1 (k + 3) (below_byte number) (below_variant v k one h))
