-- How much the offset of a value bears on its length: at most eight bytes.
use Rattle.std.proofs.Common.{◌≡◌, ℕ, zero, suc, ◌+◌, ◌*◌, ◌/◌, ◌%◌, ◌≤◌, List, [], ◌∷◌, ◌++◌, length, map, replicate, refl, sym, ap, subst, ◌∙◌, arith}
use Rattle.std.specs.Int.{w8, w16, w32, w64, to_le_bytes, cast_unsigned}
use Rattle.std.proofs.lemmas.List.{length-append, length-replicate}
use Rattle.dbus_types.specs.declared.types.Endian.TheVariants.{Little}
use Rattle.dbus_types.specs.declared.types.WireType.{WireType, out-WireType}
use Rattle.dbus_types.specs.declared.types.WireType.TheOpen.{WireType-F}
use Rattle.dbus_types.specs.declared.types.Value.{Value}
use Rattle.dbus_types.specs.declared.types.Value.TheOpen.{Value-F}
use Rattle.dbus_types.specs.declared.types.Value.TheFolds.{ind-Value, map-Value, fold-roll-Value}
use Rattle.dbus_types.specs.Types.{alignment, alignment_of, type_text}
use Rattle.dbus_values.specs.Spells.{number, gap, bit}
use Rattle.dbus_values.specs.Spelling.{aligned, in_row, text_body, signature_body, array_body, bytes_body, variant_body, Spelled, spell_step, spelled, spelling}

-- What begins later ends no sooner, and eight bytes later it is as long.
abbrev Shifts : (ℕ → List ℕ) → Type 0
Shifts f = ((a b : ℕ) → a ≤ b → a + length (f a) ≤ b + length (f b)) × ((a : ℕ) → length (f (a + 8)) ≡ length (f a))

fixed : (f : ℕ → List ℕ) (n : ℕ) → ((at : ℕ) → length (f at) ≡ n) → Shifts f
fixed f n h = (λ a b le. omega (arith, h a, h b, le), λ a. h (a + 8) ∙ sym (h a))

-- ---- behind so many bytes, and behind padding

behind_bytes : (k : ℕ) (f g : ℕ → List ℕ) → ((at : ℕ) → length (g at) ≡ k + length (f (at + k))) → Shifts f → Shifts g
behind_bytes k f g h s = (
  λ a b le. omega (arith, h a, h b, s.0 (a + k) (b + k) (omega (arith, le))),
  λ a.
      let same : a + 8 + k ≡ a + k + 8 = omega arith in
      let moved : length (f (a + 8 + k)) ≡ length (f (a + k + 8)) = ap (λ (n : ℕ). length (f n)) same in
      omega (arith, h a, h (a + 8), moved, s.1 (a + k)),
)

abbrev Pads : ℕ → Type 0
Pads to = ((a b : ℕ) → a ≤ b → a + gap to a ≤ b + gap to b) × ((a : ℕ) → gap to (a + 8) ≡ gap to a)

one_pads : Pads 1
one_pads = (λ a b le. omega arith, λ a. omega arith)

two_pads : Pads 2
two_pads = (λ a b le. omega arith, λ a. omega arith)

four_pads : Pads 4
four_pads = (λ a b le. omega arith, λ a. omega arith)

eight_pads : Pads 8
eight_pads = (λ a b le. omega arith, λ a. omega arith)

by_layer : (x : WireType-F WireType) → Pads (alignment_of x)
by_layer WireType-F.Byte = one_pads
by_layer WireType-F.I16 = two_pads
by_layer WireType-F.U16 = two_pads
by_layer WireType-F.I64 = eight_pads
by_layer WireType-F.U64 = eight_pads
by_layer WireType-F.Double = eight_pads
by_layer WireType-F.Signature = one_pads
by_layer WireType-F.Variant = one_pads
by_layer (WireType-F.Struct ts) = eight_pads
by_layer (WireType-F.DictEntry k v) = eight_pads
by_layer y = four_pads

type_pads : (t : WireType) → Pads (alignment t)
type_pads t = by_layer (out-WireType t)

padded : (to : ℕ) (f : ℕ → List ℕ) (at : ℕ) → length (aligned to f at) ≡ gap to at + length (f (at + gap to at))
padded to f at = omega (arith, length-append (replicate (gap to at) 0) (f (at + gap to at)), length-replicate {A = ℕ} (gap to at) 0)

behind_padding : (to : ℕ) (f : ℕ → List ℕ) → Pads to → Shifts f → Shifts (aligned to f)
behind_padding to f p s = (
  λ a b le. omega (arith, padded to f a, padded to f b, s.0 (a + gap to a) (b + gap to b) (p.0 a b le)),
  λ a.
      let same : a + 8 + gap to (a + 8) ≡ a + gap to a + 8 = omega (arith, p.1 a) in
      let moved : length (f (a + 8 + gap to (a + 8))) ≡ length (f (a + gap to a + 8)) = ap (λ (n : ℕ). length (f n)) same in
      omega (arith, padded to f a, padded to f (a + 8), p.1 a, moved, s.1 (a + gap to a)),
)

number_shifts : (to n : ℕ) (bytes : List ℕ) → Pads to → length bytes ≡ n → Shifts (aligned to (λ start. bytes))
number_shifts to n bytes p is = behind_padding to (λ start. bytes) p (fixed (λ start. bytes) n (λ at. is))

-- ---- values

abbrev Moves : Value → Type 0
Moves v = Shifts (λ at. spelling Little at v)

abbrev Such : Type 0
Such = (v : Value) × Moves v

abbrev spelled_of : List Such → List Spelled
spelled_of xs = map (spelled Little) (map (λ x. x.0) xs)

row_shifts : (xs : List Such) → Shifts (in_row (spelled_of xs))
row_shifts [] = fixed (in_row []) 0 (λ at. refl)
row_shifts (x ∷ xs) =
    let long : ℕ → ℕ = λ (at : ℕ). length (spelling Little at x.0) in
    let rest : ℕ → List ℕ = in_row (spelled_of xs) in
    let whole : (at : ℕ) → length (in_row (spelled_of (x ∷ xs)) at) ≡ long at + length (rest (at + long at)) = λ at. length-append (spelling Little at x.0) (rest (at + long at)) in
    let more : Shifts rest = row_shifts xs in (
      λ a b le. omega (arith, whole a, whole b, more.0 (a + long a) (b + long b) (x.1.0 a b le)),
      λ a.
          let same : a + 8 + long (a + 8) ≡ a + long a + 8 = omega (arith, x.1.1 a) in
          let moved : length (rest (a + 8 + long (a + 8))) ≡ length (rest (a + long a + 8)) = ap (λ (n : ℕ). length (rest n)) same in
          omega (arith, whole a, whole (a + 8), x.1.1 a, moved, more.1 (a + long a)),
    )

array_shifts : (t : WireType) (xs : List Such) → Shifts (array_body Little (alignment t) (spelled_of xs))
array_shifts t xs =
    let to : ℕ = alignment t in
    let items : ℕ → List ℕ = aligned to (in_row (spelled_of xs)) in
    behind_bytes 4 items (array_body Little to (spelled_of xs))
    (λ at. length-append (number Little w32 (length (in_row (spelled_of xs) (at + 4 + gap to (at + 4))))) (items (at + 4)))
    (behind_padding to (in_row (spelled_of xs)) (type_pads t) (row_shifts xs))

variant_shifts : (x : Such) → Shifts (variant_body (type_text (spelled Little x.0).0) (spelled Little x.0).1)
variant_shifts x =
    let text : List ℕ = type_text (spelled Little x.0).0 in
    let k : ℕ = 1 + length text + 1 in
    behind_bytes k (spelled Little x.0).1 (variant_body text (spelled Little x.0).1)
    (λ at. omega (arith, length-append (to_le_bytes w8 (length text)) (text ++ 0 ∷ spelling Little (at + k) x.0), length-append text (0 ∷ spelling Little (at + k) x.0))) x.1

text_length : (text : List ℕ) → length (text_body Little text) ≡ length text + 5
text_length text = omega (arith, length-append (number Little w32 (length text)) (text ++ 0 ∷ []), length-append text (0 ∷ []))

bytes_length : (bytes : List ℕ) → length (bytes_body Little bytes) ≡ length bytes + 4
bytes_length bytes = omega (arith, length-append (number Little w32 (length bytes)) bytes)

signature_length : (text : List ℕ) → length (signature_body text) ≡ length text + 2
signature_length text = omega (arith, length-append (to_le_bytes w8 (length text)) (text ++ 0 ∷ []), length-append text (0 ∷ []))

layer : (y : Value-F Such) → Shifts (spell_step Little (map-Value Value Spelled (spelled Little) (map-Value Such Value (λ x. x.0) y))).1
layer (Value-F.Byte n) = fixed (λ at. n ∷ []) 1 (λ at. refl)
layer (Value-F.Bool b) = number_shifts 4 4 (number Little w32 (bit b)) four_pads refl
layer (Value-F.I16 z) = number_shifts 2 2 (number Little w16 (cast_unsigned w16 z)) two_pads refl
layer (Value-F.U16 n) = number_shifts 2 2 (number Little w16 n) two_pads refl
layer (Value-F.I32 z) = number_shifts 4 4 (number Little w32 (cast_unsigned w32 z)) four_pads refl
layer (Value-F.U32 n) = number_shifts 4 4 (number Little w32 n) four_pads refl
layer (Value-F.I64 z) = number_shifts 8 8 (number Little w64 (cast_unsigned w64 z)) eight_pads refl
layer (Value-F.U64 n) = number_shifts 8 8 (number Little w64 n) eight_pads refl
layer (Value-F.Double n) = number_shifts 8 8 (number Little w64 n) eight_pads refl
layer (Value-F.Handle n) = number_shifts 4 4 (number Little w32 n) four_pads refl
layer (Value-F.Str text) = number_shifts 4 (length text + 5) (text_body Little text) four_pads (text_length text)
layer (Value-F.ObjectPath text) = number_shifts 4 (length text + 5) (text_body Little text) four_pads (text_length text)
layer (Value-F.Signature text) = fixed (λ at. signature_body text) (length text + 2) (λ at. signature_length text)
layer (Value-F.Variant x) = variant_shifts x
layer (Value-F.Bytes bytes) = number_shifts 4 (length bytes + 4) (bytes_body Little bytes) four_pads (bytes_length bytes)
layer (Value-F.Array t xs) = behind_padding 4 (array_body Little (alignment t) (spelled_of xs)) four_pads (array_shifts t xs)
layer (Value-F.Struct xs) = behind_padding 8 (in_row (spelled_of xs)) eight_pads (row_shifts xs)
layer (Value-F.DictEntry k x) = behind_padding 8 (in_row (spelled_of (k ∷ x ∷ []))) eight_pads (row_shifts (k ∷ x ∷ []))

value_shifts : (v : Value) → Moves v
value_shifts = ind-Value Moves (λ x y is.
    subst (λ (s : Spelled). Shifts s.1) (sym (fold-roll-Value Spelled (spell_step Little) x))
    (subst (λ (z : Value-F Value). Shifts (spell_step Little (map-Value Value Spelled (spelled Little) z)).1) is (layer y)))

-- ---- at the beginning and elsewhere

eights : (f : ℕ → List ℕ) (n a : ℕ) → Shifts f → length (f (a + 8 * n)) ≡ length (f a)
eights f zero a s = let same : a + 8 * zero ≡ a = omega arith in ap (λ (n : ℕ). length (f n)) same
eights f (suc n) a s =
    let same : a + 8 * suc n ≡ a + 8 * n + 8 = omega arith in
    let moved : length (f (a + 8 * suc n)) ≡ length (f (a + 8 * n + 8)) = ap (λ (m : ℕ). length (f m)) same in
    moved ∙ (s.1 (a + 8 * n) ∙ eights f n a s)

-- A value takes at most eight bytes more at the beginning than elsewhere.
pub at_most_eight : (v : Value) (at : ℕ) → length (spelling Little 0 v) ≤ length (spelling Little at v) + 8
at_most_eight v at =
    let s : Shifts (λ n. spelling Little n v) = value_shifts v in
    let r : ℕ = at % 8 in
    let whole : length (spelling Little (r + 8 * (at / 8)) v) ≡ length (spelling Little r v) = eights (λ n. spelling Little n v) (at / 8) r s in
    let same : r + 8 * (at / 8) ≡ at = omega arith in
    let here : length (spelling Little (r + 8 * (at / 8)) v) ≡ length (spelling Little at v) = ap (λ (n : ℕ). length (spelling Little n v)) same in
    omega (arith, whole, here, s.0 0 r (omega arith))
