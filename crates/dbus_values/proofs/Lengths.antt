-- A value takes as many bytes in either order of bytes.
use Rattle.std.proofs.Common.{◌≡◌, ℕ, ◌+◌, List, [], ◌∷◌, ◌++◌, length, map, replicate, refl, sym, ap, subst, ◌∙◌, arith}
use Rattle.std.specs.Int.{w8, w16, w32, w64, to_le_bytes, cast_unsigned}
use Rattle.std.proofs.lemmas.List.{length-append}
use Rattle.dbus_types.specs.declared.types.Endian.{Endian}
use Rattle.dbus_types.specs.declared.types.Endian.TheVariants.{Little, Big}
use Rattle.dbus_types.specs.declared.types.Value.{Value}
use Rattle.dbus_types.specs.declared.types.Value.TheOpen.{Value-F}
use Rattle.dbus_types.specs.declared.types.Value.TheFolds.{ind-Value, map-Value, fold-roll-Value}
use Rattle.dbus_types.specs.Types.{alignment, type_text}
use Rattle.dbus_values.specs.Spells.{number, gap, bit}
use Rattle.dbus_values.specs.Spelling.{aligned, in_row, text_body, array_body, bytes_body, variant_body, Spelled, spell_step, spelled, spelling}
use Rattle.dbus_values.proofs.SpelledType.{spelled_kind}

number_16 : (e : Endian) (n : ℕ) → length (number e w16 n) ≡ length (number Little w16 n)
number_16 Little n = refl
number_16 Big n = refl

number_32 : (e : Endian) (n : ℕ) → length (number e w32 n) ≡ length (number Little w32 n)
number_32 Little n = refl
number_32 Big n = refl

number_64 : (e : Endian) (n : ℕ) → length (number e w64 n) ≡ length (number Little w64 n)
number_64 Little n = refl
number_64 Big n = refl

-- two bodies of one length behind the same padding
behind : (to : ℕ) (f g : ℕ → List ℕ) → ((at : ℕ) → length (f at) ≡ length (g at)) → (at : ℕ) → length (aligned to f at) ≡ length (aligned to g at)
behind to f g same at =
    let zeros : List ℕ = replicate (gap to at) 0 in
    omega (arith, length-append zeros (f (at + gap to at)), length-append zeros (g (at + gap to at)), same (at + gap to at))

text_same : (e : Endian) (text : List ℕ) (at : ℕ) → length (text_body e text) ≡ length (text_body Little text)
text_same e text at =
    let rest : List ℕ = text ++ 0 ∷ [] in
    omega (arith, length-append (number e w32 (length text)) rest, length-append (number Little w32 (length text)) rest, number_32 e (length text))

module _ (e : Endian) where
  abbrev Agrees : Value → Type 0
  Agrees v = (at : ℕ) → length (spelling e at v) ≡ length (spelling Little at v)

  abbrev Such : Type 0
  Such = (v : Value) × Agrees v

  abbrev spelled_of : Endian → List Such → List Spelled
  spelled_of d xs = map (spelled d) (map (λ x. x.0) xs)

  row : (xs : List Such) (at : ℕ) → length (in_row (spelled_of e xs) at) ≡ length (in_row (spelled_of Little xs) at)
  row [] at = refl
  row (x ∷ xs) at =
      let first : List ℕ = spelling e at x.0 in
      let little : List ℕ = spelling Little at x.0 in
      let rest : List ℕ = in_row (spelled_of e xs) (at + length first) in
      let there : length (in_row (spelled_of Little xs) (at + length first)) ≡ length (in_row (spelled_of Little xs) (at + length little)) =
      ap (λ (n : ℕ). length (in_row (spelled_of Little xs) (at + n))) (x.1 at) in
      omega (
        arith,
        x.1 at,
        row xs (at + length first),
        there,
        length-append first rest,
        length-append little (in_row (spelled_of Little xs) (at + length little)),
      )

  array_same : (to : ℕ) (xs : List Such) (at : ℕ) → length (array_body e to (spelled_of e xs) at) ≡ length (array_body Little to (spelled_of Little xs) at)
  array_same to xs at =
      let from : ℕ = at + 4 + gap to (at + 4) in
      let zeros : List ℕ = replicate (gap to (at + 4)) 0 in
      let mine : List ℕ = in_row (spelled_of e xs) from in
      let little : List ℕ = in_row (spelled_of Little xs) from in
      omega (
        arith,
        row xs from,
        length-append (number e w32 (length mine)) (zeros ++ mine),
        length-append (number Little w32 (length little)) (zeros ++ little),
        length-append zeros mine,
        length-append zeros little,
        number_32 e (length mine),
      )

  bytes_same : (bytes : List ℕ) → length (bytes_body e bytes) ≡ length (bytes_body Little bytes)
  bytes_same bytes = omega (arith, length-append (number e w32 (length bytes)) bytes, length-append (number Little w32 (length bytes)) bytes, number_32 e (length bytes))

  variant_same : (x : Such) (at : ℕ) → length (variant_body (type_text (spelled e x.0).0) (spelled e x.0).1 at) ≡ length (variant_body (type_text (spelled Little x.0).0) (spelled Little x.0).1 at)
  variant_same x at =
      let text : List ℕ = type_text (spelled e x.0).0 in
      let from : ℕ = at + (1 + length text + 1) in
      let is : text ≡ type_text (spelled Little x.0).0 = ap type_text (spelled_kind e x.0 ∙ sym (spelled_kind Little x.0)) in
      let same : length (variant_body text (spelled e x.0).1 at) ≡ length (variant_body text (spelled Little x.0).1 at) = omega (
        arith,
        x.1 from,
        length-append (to_le_bytes w8 (length text)) (text ++ 0 ∷ spelling e from x.0),
        length-append (to_le_bytes w8 (length text)) (text ++ 0 ∷ spelling Little from x.0),
        length-append text (0 ∷ spelling e from x.0),
        length-append text (0 ∷ spelling Little from x.0),
      ) in
      same ∙ ap (λ (t : List ℕ). length (variant_body t (spelled Little x.0).1 at)) is

  layer : (y : Value-F Such) (at : ℕ) → length ((spell_step e (map-Value Value Spelled (spelled e) (map-Value Such Value (λ x. x.0) y))).1 at)
      ≡ length ((spell_step Little (map-Value Value Spelled (spelled Little) (map-Value Such Value (λ x. x.0) y))).1 at)
  layer (Value-F.Bool b) at = behind 4 (λ start. number e w32 (bit b)) (λ start. number Little w32 (bit b)) (λ start. number_32 e (bit b)) at
  layer (Value-F.I16 z) at = behind 2 (λ start. number e w16 (cast_unsigned w16 z)) (λ start. number Little w16 (cast_unsigned w16 z)) (λ start. number_16 e (cast_unsigned w16 z)) at
  layer (Value-F.U16 n) at = behind 2 (λ start. number e w16 (n)) (λ start. number Little w16 (n)) (λ start. number_16 e (n)) at
  layer (Value-F.I32 z) at = behind 4 (λ start. number e w32 (cast_unsigned w32 z)) (λ start. number Little w32 (cast_unsigned w32 z)) (λ start. number_32 e (cast_unsigned w32 z)) at
  layer (Value-F.U32 n) at = behind 4 (λ start. number e w32 (n)) (λ start. number Little w32 (n)) (λ start. number_32 e (n)) at
  layer (Value-F.I64 z) at = behind 8 (λ start. number e w64 (cast_unsigned w64 z)) (λ start. number Little w64 (cast_unsigned w64 z)) (λ start. number_64 e (cast_unsigned w64 z)) at
  layer (Value-F.U64 n) at = behind 8 (λ start. number e w64 (n)) (λ start. number Little w64 (n)) (λ start. number_64 e (n)) at
  layer (Value-F.Double n) at = behind 8 (λ start. number e w64 (n)) (λ start. number Little w64 (n)) (λ start. number_64 e (n)) at
  layer (Value-F.Handle n) at = behind 4 (λ start. number e w32 (n)) (λ start. number Little w32 (n)) (λ start. number_32 e (n)) at
  layer (Value-F.Str text) at = behind 4 (λ start. text_body e text) (λ start. text_body Little text) (text_same e text) at
  layer (Value-F.ObjectPath text) at = behind 4 (λ start. text_body e text) (λ start. text_body Little text) (text_same e text) at
  layer (Value-F.Variant x) at = variant_same x at
  layer (Value-F.Bytes bytes) at = behind 4 (λ start. bytes_body e bytes) (λ start. bytes_body Little bytes) (λ start. bytes_same bytes) at
  layer (Value-F.Array t xs) at = behind 4 (array_body e (alignment t) (spelled_of e xs)) (array_body Little (alignment t) (spelled_of Little xs)) (array_same (alignment t) xs) at
  layer (Value-F.Struct xs) at = behind 8 (in_row (spelled_of e xs)) (in_row (spelled_of Little xs)) (row xs) at
  layer (Value-F.DictEntry k x) at = behind 8 (in_row (spelled_of e (k ∷ x ∷ []))) (in_row (spelled_of Little (k ∷ x ∷ []))) (row (k ∷ x ∷ [])) at
  layer y at = refl

  pub same_length' : (v : Value) → Agrees v
  same_length' = ind-Value Agrees (λ x y is at.
      ap (λ (s : Spelled). length (s.1 at)) (fold-roll-Value Spelled (spell_step e) x)
      ∙ (subst (λ (z : Value-F Value). length ((spell_step e (map-Value Value Spelled (spelled e) z)).1 at) ≡ length ((spell_step Little (map-Value Value Spelled (spelled Little) z)).1 at)) is (layer y at)
      ∙ sym (ap (λ (s : Spelled). length (s.1 at)) (fold-roll-Value Spelled (spell_step Little) x))))

pub same_length : (e : Endian) (at : ℕ) (v : Value) → length (spelling e at v) ≡ length (spelling Little at v)
same_length e at v = same_length' e v at
