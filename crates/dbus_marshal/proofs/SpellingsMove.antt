-- The spelling of a value depends on its offset modulo 8 alone, which is the greatest alignment.
use Rattle.std.proofs.Common.{◌≡◌, ℕ, ◌+◌, ◌%◌, List, [], ◌∷◌, ◌++◌, length, map, replicate, refl, sym, ap, subst, ◌∙◌, arith}
use Rattle.std.specs.Int.{w8, w32, to_le_bytes}
use Rattle.dbus_types.specs.declared.types.Endian.{Endian}
use Rattle.dbus_types.specs.declared.types.WireType.{WireType, out-WireType}
use Rattle.dbus_types.specs.declared.types.WireType.TheOpen.{WireType-F}
use Rattle.dbus_types.specs.declared.types.Value.{Value}
use Rattle.dbus_types.specs.declared.types.Value.TheOpen.{Value-F}
use Rattle.dbus_types.specs.declared.types.Value.TheFolds.{ind-Value, map-Value, fold-roll-Value}
use Rattle.dbus_types.specs.Types.{alignment_of, alignment, type_text}
use Rattle.dbus_values.specs.Spells.{number, gap}
use Rattle.dbus_values.specs.Spelling.{Spelled, in_row, aligned, array_body, variant_body, spell_step, spelled, spelling, spellings}

-- the same modulo 8
abbrev Alike : ℕ → ℕ → Type 0
Alike at other = at % 8 ≡ other % 8

farther : (at other n : ℕ) → Alike at other → Alike (at + n) (other + n)
farther at other n h = omega (arith, h)

gap_1 : (at other : ℕ) → Alike at other → gap 1 at ≡ gap 1 other
gap_1 at other h = omega (arith, h)

gap_2 : (at other : ℕ) → Alike at other → gap 2 at ≡ gap 2 other
gap_2 at other h = omega (arith, h)

gap_4 : (at other : ℕ) → Alike at other → gap 4 at ≡ gap 4 other
gap_4 at other h = omega (arith, h)

gap_8 : (at other : ℕ) → Alike at other → gap 8 at ≡ gap 8 other
gap_8 at other h = omega (arith, h)

gap_of : (f : WireType-F WireType) (at other : ℕ) → Alike at other → gap (alignment_of f) at ≡ gap (alignment_of f) other
gap_of WireType-F.Byte at other h = gap_1 at other h
gap_of WireType-F.Bool at other h = gap_4 at other h
gap_of WireType-F.I16 at other h = gap_2 at other h
gap_of WireType-F.U16 at other h = gap_2 at other h
gap_of WireType-F.I32 at other h = gap_4 at other h
gap_of WireType-F.U32 at other h = gap_4 at other h
gap_of WireType-F.I64 at other h = gap_8 at other h
gap_of WireType-F.U64 at other h = gap_8 at other h
gap_of WireType-F.Double at other h = gap_8 at other h
gap_of WireType-F.Str at other h = gap_4 at other h
gap_of WireType-F.ObjectPath at other h = gap_4 at other h
gap_of WireType-F.Signature at other h = gap_1 at other h
gap_of WireType-F.Handle at other h = gap_4 at other h
gap_of WireType-F.Variant at other h = gap_1 at other h
gap_of (WireType-F.Array t) at other h = gap_4 at other h
gap_of (WireType-F.Struct ts) at other h = gap_8 at other h
gap_of (WireType-F.DictEntry k v) at other h = gap_8 at other h

-- behind padding that is the same
behind : (at other n m : ℕ) → Alike at other → n ≡ m → Alike (at + n) (other + m)
behind at other n m h e = omega (arith, h, e)

-- padding, and what stands behind it
padded_moves : (to at other : ℕ) (body : ℕ → List ℕ) → gap to at ≡ gap to other → body (at + gap to at) ≡ body (other + gap to other) → aligned to body at ≡ aligned to body other
padded_moves to at other body same inside =
    ap (λ (n : ℕ). replicate n 0 ++ body (at + gap to at)) same ∙ ap (λ (w : List ℕ). replicate (gap to other) 0 ++ w) inside

module _ (e : Endian) where
  -- a spelling that is the same at offsets that are the same modulo 8
  abbrev Still : (ℕ → List ℕ) → Type 0
  Still f = (at other : ℕ) → Alike at other → f at ≡ f other

  abbrev Moves : Value → Type 0
  Moves v = Still (spelled e v).1

  abbrev Such : Type 0
  Such = (v : Value) × Moves v

  abbrev those : List Such → List Spelled
  those xs = map (spelled e) (map (λ x. x.0) xs)

  two_in_row : (f g : ℕ → List ℕ) → Still f → Still g → (at other : ℕ) → Alike at other → f at ++ g (at + length (f at)) ≡ f other ++ g (other + length (f other))
  two_in_row f g p q at other h =
      ap (λ (w : List ℕ). w ++ g (at + length w)) (p at other h) ∙ ap (λ (w : List ℕ). f other ++ w) (q (at + length (f other)) (other + length (f other)) (farther at other (length (f other)) h))

  row_moves : (xs : List Such) → Still (in_row (those xs))
  row_moves [] at other h = refl
  row_moves (x ∷ xs) at other h = two_in_row (spelled e x.0).1 (in_row (those xs)) x.1 (row_moves xs) at other h

  same_padded : (to : ℕ) (bytes : List ℕ) → ((at other : ℕ) → Alike at other → gap to at ≡ gap to other) → Still (aligned to (λ start. bytes))
  same_padded to bytes same at other h = padded_moves to at other (λ start. bytes) (same at other h) refl

  array_moves : (t : WireType) (xs : List Such) → Still (array_body e (alignment t) (those xs))
  array_moves t xs at other h =
      let to : ℕ = alignment t in
      let same : gap to (at + 4) ≡ gap to (other + 4) = gap_of (out-WireType t) (at + 4) (other + 4) (farther at other 4 h) in
      let items : in_row (those xs) (at + 4 + gap to (at + 4)) ≡ in_row (those xs) (other + 4 + gap to (other + 4)) = row_moves xs (at + 4 + gap to (at + 4)) (other + 4 + gap to (other + 4)) (behind (at + 4) (other + 4) (gap to (at + 4)) (gap to (other + 4)) (farther at other 4 h) same) in
      ap (λ (w : List ℕ). number e w32 (length w) ++ (replicate (gap to (at + 4)) 0 ++ w)) items
      ∙ ap (λ (n : ℕ). number e w32 (length (in_row (those xs) (other + 4 + gap to (other + 4)))) ++ (replicate n 0 ++ in_row (those xs) (other + 4 + gap to (other + 4)))) same

  variant_moves : (text : List ℕ) (f : ℕ → List ℕ) → Still f → Still (variant_body text f)
  variant_moves text f p at other h = ap (λ (w : List ℕ). to_le_bytes w8 (length text) ++ (text ++ 0 ∷ w)) (p (at + (1 + length text + 1)) (other + (1 + length text + 1)) (farther at other (1 + length text + 1) h))

  behind_4 : (f : ℕ → List ℕ) → Still f → Still (aligned 4 f)
  behind_4 f p at other h = padded_moves 4 at other f (gap_4 at other h) (p (at + gap 4 at) (other + gap 4 other) (behind at other (gap 4 at) (gap 4 other) h (gap_4 at other h)))

  behind_8 : (f : ℕ → List ℕ) → Still f → Still (aligned 8 f)
  behind_8 f p at other h = padded_moves 8 at other f (gap_8 at other h) (p (at + gap 8 at) (other + gap 8 other) (behind at other (gap 8 at) (gap 8 other) h (gap_8 at other h)))

  -- a value whose parts move moves
  layer : (y : Value-F Such) → Still (spell_step e (map-Value Value Spelled (spelled e) (map-Value Such Value (λ x. x.0) y))).1
  layer (Value-F.Byte n) = λ at other h. refl
  layer (Value-F.Bool b) = same_padded 4 _ gap_4
  layer (Value-F.I16 z) = same_padded 2 _ gap_2
  layer (Value-F.U16 n) = same_padded 2 _ gap_2
  layer (Value-F.I32 z) = same_padded 4 _ gap_4
  layer (Value-F.U32 n) = same_padded 4 _ gap_4
  layer (Value-F.I64 z) = same_padded 8 _ gap_8
  layer (Value-F.U64 n) = same_padded 8 _ gap_8
  layer (Value-F.Double n) = same_padded 8 _ gap_8
  layer (Value-F.Handle n) = same_padded 4 _ gap_4
  layer (Value-F.Str text) = same_padded 4 _ gap_4
  layer (Value-F.ObjectPath text) = same_padded 4 _ gap_4
  layer (Value-F.Signature text) = λ at other h. refl
  layer (Value-F.Variant x) = variant_moves (type_text (spelled e x.0).0) (spelled e x.0).1 x.1
  layer (Value-F.Bytes bytes) = same_padded 4 _ gap_4
  layer (Value-F.Array t xs) = behind_4 (array_body e (alignment t) (those xs)) (array_moves t xs)
  layer (Value-F.Struct xs) = behind_8 (in_row (those xs)) (row_moves xs)
  layer (Value-F.DictEntry k x) = behind_8 (in_row (those (k ∷ x ∷ []))) (row_moves (k ∷ x ∷ []))

  spelled_moves : (v : Value) → Moves v
  spelled_moves = ind-Value Moves (λ x y is. subst (λ (s : Spelled). Still s.1) (sym (fold-roll-Value Spelled (spell_step e) x)) (subst (λ (z : Value-F Value). Still (spell_step e (map-Value Value Spelled (spelled e) z)).1) is (layer y)))

  pub spelling_moves : (at other : ℕ) (v : Value) → at % 8 ≡ other % 8 → spelling e at v ≡ spelling e other v
  spelling_moves at other v h = spelled_moves v at other h

  pub spellings_move : (vs : List Value) (at other : ℕ) → at % 8 ≡ other % 8 → spellings e at vs ≡ spellings e other vs
  spellings_move [] at other h = refl
  spellings_move (v ∷ vs) at other h = two_in_row (spelled e v).1 (in_row (map (spelled e) vs)) (spelled_moves v) (spellings_move vs) at other h
