-- The spellings of the values of a call are bytes, and few.
use Rattle.std.proofs.Common.{◌≡◌, ℕ, zero, suc, ◌+◌, ◌<◌, ◌≤◌, List, [], ◌∷◌, ◌++◌, length, map, replicate, sym, subst, arith}
use Rattle.std.specs.Int.{bytes_low_first, byte_at, to_le_bytes, w8, w32}
use Rattle.std.proofs.lemmas.List.{length-append, length-replicate}
use Rattle.std.proofs.lemmas.List.Elements.{All-append, All-cons, All-nil, All-replicate}
use Rattle.std.proofs.lemmas.Nat.{mod_below}
use Rattle.dbus_types.specs.declared.types.Endian.TheVariants.{Little}
use Rattle.dbus_types.specs.declared.types.WireType.{WireType}
use Rattle.dbus_types.specs.declared.types.Value.{Value}
use Rattle.dbus_types.specs.declared.types.Value.TheVariants as V
use Rattle.dbus_types.specs.declared.types.Value.TheOpen.{Value-F}
use Rattle.dbus_types.specs.Types.{alignment, type_text}
use Rattle.dbus_values.specs.Spells.{number, gap}
use Rattle.dbus_values.specs.Spelling.{Spelled, aligned, array_body, spell_step, spelled, spelling, spellings, text_body}
use Rattle.dbus_values.proofs.OneSpelling.{roll_array, roll_byte, roll_path, roll_signature, roll_str, roll_struct, roll_variant}
use Rattle.dbus_marshal.proofs.TakenFronts.{four, number_len}
use Rattle.dbus_message.specs.Written.{field}
use Rattle.script_lines.specs.Lines.{AreBytes}

-- bytes, at most so many
pub record IsSmall (k : ℕ) (bs : List ℕ) : Type 0 where
  pub bytes : AreBytes bs
  pub short : length bs ≤ k

pub small_append : (j k : ℕ) (xs ys : List ℕ) → IsSmall j xs → IsSmall k ys → IsSmall (j + k) (xs ++ ys)
small_append j k xs ys a b = record { bytes = All-append (λ b. b < 256) xs ys a.bytes b.bytes; short = omega (arith, a.short, b.short, length-append xs ys) }

pub small_more : (j k : ℕ) (bs : List ℕ) → j ≤ k → IsSmall j bs → IsSmall k bs
small_more j k bs h a = record { bytes = a.bytes; short = omega (arith, h, a.short) }

one_byte : (i n : ℕ) → byte_at i n < 256
one_byte zero n = omega arith
one_byte (suc i) n = omega arith

pub number_bytes : (i k n : ℕ) → AreBytes (bytes_low_first i k n)
number_bytes i zero n = All-nil (λ b. b < 256)
number_bytes i (suc k) n = All-cons (λ b. b < 256) (byte_at i n) (bytes_low_first (suc i) k n) (one_byte i n) (number_bytes (suc i) k n)

pub small_number : (n : ℕ) → IsSmall 4 (number Little w32 n)
small_number n = record { bytes = number_bytes 0 4 n; short = omega (arith, number_len Little four n) }

small_length : (n : ℕ) → IsSmall 1 (to_le_bytes w8 n)
small_length n = record { bytes = number_bytes 0 1 n; short = omega arith }

pub small_zeros : (n k : ℕ) → n ≤ k → IsSmall k (replicate n 0)
small_zeros n k h = record { bytes = All-replicate (λ b. b < 256) n 0 (omega arith); short = omega (arith, h, length-replicate {A = ℕ} n 0) }

pub small_one : (b : ℕ) → b < 256 → IsSmall 1 (b ∷ [])
small_one b h = record { bytes = All-cons (λ c. c < 256) b [] h (All-nil (λ c. c < 256)); short = omega arith }

pub small_gap : (to at : ℕ) → 0 < to → IsSmall to (replicate (gap to at) 0)
small_gap to at h = let less : gap to at < to = mod_below _ to h in small_zeros (gap to at) to (omega arith)

-- ---- values, at each offset

abbrev pub Small : ℕ → Value → Type 0
Small k v = (at : ℕ) → IsSmall k (spelling Little at v)

-- one after another
abbrev pub SmallRow : ℕ → List Value → Type 0
SmallRow k vs = (at : ℕ) → IsSmall k (spellings Little at vs)

small_as : (v : Value) (s : Spelled) (k : ℕ) → spelled Little v ≡ s → ((at : ℕ) → IsSmall k (s.1 at)) → Small k v
small_as v s k is h at = subst (λ (x : Spelled). IsSmall k (x.1 at)) (sym is) (h at)

small_aligned : (to : ℕ) (body : ℕ → List ℕ) (k : ℕ) → 0 < to → ((start : ℕ) → IsSmall k (body start)) → (at : ℕ) → IsSmall (to + k) (aligned to body at)
small_aligned to body k h small at = small_append to k (replicate (gap to at) 0) (body (at + gap to at)) (small_gap to at h) (small (at + gap to at))

closed : (text : List ℕ) (k : ℕ) → IsSmall k text → IsSmall (k + 1) (text ++ 0 ∷ [])
closed text k h = small_append k 1 text (0 ∷ []) h (small_one 0 (omega arith))

text_small : (text : List ℕ) (k : ℕ) → IsSmall k text → (at : ℕ) → IsSmall (4 + (4 + (k + 1))) (aligned 4 (λ start. text_body Little text) at)
text_small text k h =
    small_aligned 4 (λ start. text_body Little text) (4 + (k + 1)) (omega arith)
    (λ start. small_append 4 (k + 1) (number Little w32 (length text)) (text ++ 0 ∷ []) (small_number (length text)) (closed text k h))

pub str_small : (text : List ℕ) (k : ℕ) → IsSmall k text → Small (k + 9) (V.Str text)
str_small text k h at = small_more (4 + (4 + (k + 1))) (k + 9) (spelling Little at (V.Str text)) (omega arith)
    (small_as (V.Str text) (spell_step Little (Value-F.Str text)) (4 + (4 + (k + 1))) (roll_str Little text) (text_small text k h) at)

pub path_small : (text : List ℕ) (k : ℕ) → IsSmall k text → Small (k + 9) (V.ObjectPath text)
path_small text k h at = small_more (4 + (4 + (k + 1))) (k + 9) (spelling Little at (V.ObjectPath text)) (omega arith)
    (small_as (V.ObjectPath text) (spell_step Little (Value-F.ObjectPath text)) (4 + (4 + (k + 1))) (roll_path Little text) (text_small text k h) at)

pub signature_small : (text : List ℕ) (k : ℕ) → IsSmall k text → Small (k + 2) (V.Signature text)
signature_small text k h at = small_more (1 + (k + 1)) (k + 2) (spelling Little at (V.Signature text)) (omega arith)
    (small_as (V.Signature text) (spell_step Little (Value-F.Signature text)) (1 + (k + 1)) (roll_signature Little text)
    (λ start. small_append 1 (k + 1) (to_le_bytes w8 (length text)) (text ++ 0 ∷ []) (small_length (length text)) (closed text k h)) at)

byte_small : (n : ℕ) → n < 256 → Small 1 (V.Byte n)
byte_small n h = small_as (V.Byte n) (spell_step Little (Value-F.Byte n)) 1 (roll_byte Little n) (λ at. small_one n h)

-- a value whose type is one code
variant_small : (v : Value) (code k : ℕ) → code < 256 → type_text (spelled Little v).0 ≡ code ∷ [] → Small k v → Small (k + 3) (V.Variant v)
variant_small v code k low text h at =
    let t : List ℕ = type_text (spelled Little v).0 in
    let one : IsSmall 1 t = subst (λ (x : List ℕ). IsSmall 1 x) (sym text) (small_one code low) in
    small_more (1 + (1 + (1 + k))) (k + 3) (spelling Little at (V.Variant v)) (omega arith)
    (small_as (V.Variant v) (spell_step Little (Value-F.Variant (spelled Little v))) (1 + (1 + (1 + k))) (roll_variant Little v)
    (λ start.
    let inside : List ℕ = spelling Little (start + (1 + length t + 1)) v in
    small_append 1 (1 + (1 + k)) (to_le_bytes w8 (length t)) (t ++ 0 ∷ inside) (small_length (length t))
    (small_append 1 (1 + k) t (0 ∷ inside) one (small_append 1 k (0 ∷ []) inside (small_one 0 (omega arith)) (h (start + (1 + length t + 1)))))) at)

pub row_none : SmallRow 0 []
row_none at = record { bytes = All-nil (λ b. b < 256); short = omega arith }

pub row_more : (j k : ℕ) (v : Value) (vs : List Value) → Small j v → SmallRow k vs → SmallRow (j + k) (v ∷ vs)
row_more j k v vs a b at =
    let first : List ℕ = spelling Little at v in
    small_append j k first (spellings Little (at + length first) vs) (a at) (b (at + length first))

pub field_small : (number : ℕ) (v : Value) (code k : ℕ) → number < 256 → code < 256 → type_text (spelled Little v).0 ≡ code ∷ [] → Small k v → Small (k + 12) (field number v)
field_small number v code k n low text h at =
    let members : List Value = V.Byte number ∷ V.Variant v ∷ [] in
    let row : SmallRow (1 + (k + 3 + 0)) members = row_more 1 (k + 3 + 0) (V.Byte number) (V.Variant v ∷ []) (byte_small number n) (row_more (k + 3) 0 (V.Variant v) [] (variant_small v code k low text h) row_none) in
    small_more (8 + (1 + (k + 3 + 0))) (k + 12) (spelling Little at (field number v)) (omega arith)
    (small_as (V.Struct members) (spell_step Little (Value-F.Struct (map (spelled Little) members))) (8 + (1 + (k + 3 + 0))) (roll_struct Little members)
    (small_aligned 8 (λ start. spellings Little start members) (1 + (k + 3 + 0)) (omega arith) row) at)

pub array_small : (t : WireType) (vs : List Value) (to k : ℕ) → alignment t ≡ to → 0 < to → SmallRow k vs → Small (4 + (4 + (to + k))) (V.Array t vs)
array_small t vs to k is some h =
    small_as (V.Array t vs) (spell_step Little (Value-F.Array t (map (spelled Little) vs))) (4 + (4 + (to + k))) (roll_array Little t vs)
    (small_aligned 4 (array_body Little (alignment t) (map (spelled Little) vs)) (4 + (to + k)) (omega arith) inside)
  where
    inside : (start : ℕ) → IsSmall (4 + (to + k)) (array_body Little (alignment t) (map (spelled Little) vs) start)
    inside start =
        let pad : ℕ = gap (alignment t) (start + 4) in
        let items : List ℕ = spellings Little (start + 4 + pad) vs in
        let gaps : IsSmall to (replicate pad 0) = subst (λ (n : ℕ). IsSmall to (replicate (gap n (start + 4)) 0)) (sym is) (small_gap to (start + 4) some) in
        small_append 4 (to + k) (number Little w32 (length items)) (replicate pad 0 ++ items) (small_number (length items))
        (small_append to k (replicate pad 0) items gaps (h (start + 4 + pad)))
