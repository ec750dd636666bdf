-- What spells a value is its spelling.
use Rattle.std.proofs.Common.{◌≡◌, ℕ, zero, suc, ◌+◌, ◌<◌, ◌^◌, ℤ, Bool, List, [], ◌∷◌, ◌++◌, length, map, refl, sym, ap, ◌∙◌, arith}
use Rattle.std.specs.Prelude.{All}
use Rattle.std.proofs.lemmas.Int.{of_z-to_z}
use Rattle.std.proofs.lemmas.List.Elements.{All-nil, All-cons}
use Rattle.std.specs.Int.{Width, w8, w16, w32, w64, to_le_bytes, cast_signed}
use mir.Val.{bits}
use Rattle.dbus_types.specs.declared.types.Endian.{Endian}
use Rattle.dbus_types.specs.declared.types.WireType.{WireType, out-WireType, roll-WireType, the_lemmas as type_lemmas}
use Rattle.dbus_types.specs.declared.types.WireType.TheOpen.{WireType-F}
use Rattle.dbus_types.specs.declared.types.WireType.TheVariants as W
use Rattle.dbus_types.specs.declared.types.Value.{Value, the_lemmas}
use Rattle.dbus_types.specs.declared.types.Value.TheOpen.{Value-F}
use Rattle.dbus_types.specs.declared.types.Value.TheVariants as V
use Rattle.dbus_types.specs.Types.{alignment, type_text}
use Rattle.dbus_values.specs.Values.{type_of, array_of}
use Rattle.dbus_values.specs.Spells.{number, gap, Aligned, NumberRow, TextRow, Members, Elements, Flat, Row, NoneInside, SpellsWithin}
use Rattle.dbus_values.specs.Spelling.{aligned, text_body, Spelled, spell_step, spelled, spelling, spellings, variant_body}
use Rattle.dbus_values.proofs.PackedBytes.{array_spelled}
use Rattle.dbus_values.proofs.SpelledType.{spelled_kind}

pub roll_byte : (e : Endian) (n : ℕ) → spelled e (V.Byte n) ≡ spell_step e (Value-F.Byte n)
roll_byte e n = search the_lemmas

pub roll_bool : (e : Endian) (b : Bool) → spelled e (V.Bool b) ≡ spell_step e (Value-F.Bool b)
roll_bool e b = search the_lemmas

pub roll_i16 : (e : Endian) (z : ℤ) → spelled e (V.I16 z) ≡ spell_step e (Value-F.I16 z)
roll_i16 e z = search the_lemmas

pub roll_u16 : (e : Endian) (n : ℕ) → spelled e (V.U16 n) ≡ spell_step e (Value-F.U16 n)
roll_u16 e n = search the_lemmas

pub roll_i32 : (e : Endian) (z : ℤ) → spelled e (V.I32 z) ≡ spell_step e (Value-F.I32 z)
roll_i32 e z = search the_lemmas

pub roll_u32 : (e : Endian) (n : ℕ) → spelled e (V.U32 n) ≡ spell_step e (Value-F.U32 n)
roll_u32 e n = search the_lemmas

pub roll_i64 : (e : Endian) (z : ℤ) → spelled e (V.I64 z) ≡ spell_step e (Value-F.I64 z)
roll_i64 e z = search the_lemmas

pub roll_u64 : (e : Endian) (n : ℕ) → spelled e (V.U64 n) ≡ spell_step e (Value-F.U64 n)
roll_u64 e n = search the_lemmas

pub roll_double : (e : Endian) (n : ℕ) → spelled e (V.Double n) ≡ spell_step e (Value-F.Double n)
roll_double e n = search the_lemmas

pub roll_handle : (e : Endian) (n : ℕ) → spelled e (V.Handle n) ≡ spell_step e (Value-F.Handle n)
roll_handle e n = search the_lemmas

pub roll_str : (e : Endian) (s : List ℕ) → spelled e (V.Str s) ≡ spell_step e (Value-F.Str s)
roll_str e s = search the_lemmas

pub roll_path : (e : Endian) (s : List ℕ) → spelled e (V.ObjectPath s) ≡ spell_step e (Value-F.ObjectPath s)
roll_path e s = search the_lemmas

pub roll_signature : (e : Endian) (s : List ℕ) → spelled e (V.Signature s) ≡ spell_step e (Value-F.Signature s)
roll_signature e s = search the_lemmas

pub roll_array : (e : Endian) (t : WireType) (vs : List Value) → spelled e (V.Array t vs) ≡ spell_step e (Value-F.Array t (map (spelled e) vs))
roll_array e t vs = search the_lemmas

pub roll_bytes : (e : Endian) (bytes : List ℕ) → spelled e (V.Bytes bytes) ≡ spell_step e (Value-F.Bytes bytes)
roll_bytes e bytes = search the_lemmas

pub roll_struct : (e : Endian) (vs : List Value) → spelled e (V.Struct vs) ≡ spell_step e (Value-F.Struct (map (spelled e) vs))
roll_struct e vs = search the_lemmas

pub roll_entry : (e : Endian) (k v : Value) → spelled e (V.DictEntry k v) ≡ spell_step e (Value-F.DictEntry (spelled e k) (spelled e v))
roll_entry e k v = search the_lemmas

pub roll_variant : (e : Endian) (v : Value) → spelled e (V.Variant v) ≡ spell_step e (Value-F.Variant (spelled e v))
roll_variant e v = search the_lemmas

rolls_array : (t : WireType) → W.Array t ≡ roll-WireType (WireType-F.Array t)
rolls_array t = search type_lemmas

rolls_struct : (ts : List WireType) → W.Struct ts ≡ roll-WireType (WireType-F.Struct ts)
rolls_struct ts = search type_lemmas

rolls_entry : (t u : WireType) → W.DictEntry t u ≡ roll-WireType (WireType-F.DictEntry t u)
rolls_entry t u = search type_lemmas

rolls_byte : W.Byte ≡ roll-WireType WireType-F.Byte
rolls_byte = search type_lemmas

rolls_bool : W.Bool ≡ roll-WireType WireType-F.Bool
rolls_bool = search type_lemmas

rolls_i16 : W.I16 ≡ roll-WireType WireType-F.I16
rolls_i16 = search type_lemmas

rolls_u16 : W.U16 ≡ roll-WireType WireType-F.U16
rolls_u16 = search type_lemmas

rolls_i32 : W.I32 ≡ roll-WireType WireType-F.I32
rolls_i32 = search type_lemmas

rolls_u32 : W.U32 ≡ roll-WireType WireType-F.U32
rolls_u32 = search type_lemmas

rolls_i64 : W.I64 ≡ roll-WireType WireType-F.I64
rolls_i64 = search type_lemmas

rolls_u64 : W.U64 ≡ roll-WireType WireType-F.U64
rolls_u64 = search type_lemmas

rolls_double : W.Double ≡ roll-WireType WireType-F.Double
rolls_double = search type_lemmas

rolls_handle : W.Handle ≡ roll-WireType WireType-F.Handle
rolls_handle = search type_lemmas

rolls_str : W.Str ≡ roll-WireType WireType-F.Str
rolls_str = search type_lemmas

rolls_path : W.ObjectPath ≡ roll-WireType WireType-F.ObjectPath
rolls_path = search type_lemmas

rolls_signature : W.Signature ≡ roll-WireType WireType-F.Signature
rolls_signature = search type_lemmas

rolls_variant : W.Variant ≡ roll-WireType WireType-F.Variant
rolls_variant = search type_lemmas

roll_out : (t : WireType) → roll-WireType (out-WireType t) ≡ t
roll_out t = search type_lemmas

-- ---- the rows

made : (e : Endian) (at : ℕ) (v u : Value) (s : Spelled) (text : List ℕ) (t : WireType) → v ≡ u → spelled e u ≡ s → text ≡ s.1 at → s.0 ≡ t → (text ≡ spelling e at v) × ((spelled e v).0 ≡ t)
made e at v u s text t a b c d =
    let x : spelled e v ≡ s = ap (spelled e) a ∙ b in
    (c ∙ sym (ap (λ (z : Spelled). z.1 at) x), ap (λ (z : Spelled). z.0) x ∙ d)

-- a number behind padding, and the type of its value
abbrev numbered_as : Endian → ℕ → Width → WireType → ℕ → Spelled
numbered_as e to w t n = (t, aligned to (λ start. number e w n))

numbered_same : (e : Endian) (to : ℕ) (w : Width) (make : ℕ → Value) (t u : WireType) → t ≡ u → ((n : ℕ) → n < 2 ^ bits w → spelled e (make n) ≡ numbered_as e to w t n)
    → (at : ℕ) (v : Value) (text : List ℕ) → Aligned to at (NumberRow e w make v) text → (text ≡ spelling e at v) × ((spelled e v).0 ≡ u)
numbered_same e to w make t u is roll at v text h = let b = h.2 in made e at v (make b.0) (numbered_as e to w t b.0) text u b.1 (roll b.0 b.2) (rw (h.1, b.3) refl) is

texted_same : (e : Endian) (Good : List ℕ → Type 0) (make : List ℕ → Value) (t u : WireType) → t ≡ u → ((s : List ℕ) → spelled e (make s) ≡ (t, aligned 4 (λ start. text_body e s)))
    → (at : ℕ) (v : Value) (text : List ℕ) → Aligned 4 at (TextRow e Good make v) text → (text ≡ spelling e at v) × ((spelled e v).0 ≡ u)
texted_same e Good make t u is roll at v text h = let b = h.2 in made e at v (make b.0) (t, aligned 4 (λ start. text_body e b.0)) text u b.1 (roll b.0) (rw (h.1, b.4) refl) is

pub one_byte : (n : ℕ) → n < 256 → to_le_bytes w8 n ≡ n ∷ []
one_byte n lt = ap (λ (k : ℕ). k ∷ []) (omega (arith, lt))

flat_same : (e : Endian) (t : WireType-F WireType) (at : ℕ) (v : Value) (text : List ℕ) → Flat e t at v text → (text ≡ spelling e at v) × ((spelled e v).0 ≡ roll-WireType t)
flat_same e WireType-F.Byte at v text h = made e at v (V.Byte h.0) (spell_step e (Value-F.Byte h.0)) text _ h.1 (roll_byte e h.0) h.3 rolls_byte
flat_same e WireType-F.Bool at v text h = let b = h.2 in made e at v (V.Bool b.0) (spell_step e (Value-F.Bool b.0)) text _ b.1 (roll_bool e b.0) (rw (h.1, b.2) refl) rolls_bool
flat_same e WireType-F.I16 at v text h = numbered_same e 2 w16 (λ n. V.I16 (cast_signed w16 n)) W.I16 _ rolls_i16 (λ n lt. roll_i16 e (cast_signed w16 n) ∙ ap (numbered_as e 2 w16 W.I16) (of_z-to_z w16 n lt)) at v text h
flat_same e WireType-F.I32 at v text h = numbered_same e 4 w32 (λ n. V.I32 (cast_signed w32 n)) W.I32 _ rolls_i32 (λ n lt. roll_i32 e (cast_signed w32 n) ∙ ap (numbered_as e 4 w32 W.I32) (of_z-to_z w32 n lt)) at v text h
flat_same e WireType-F.I64 at v text h = numbered_same e 8 w64 (λ n. V.I64 (cast_signed w64 n)) W.I64 _ rolls_i64 (λ n lt. roll_i64 e (cast_signed w64 n) ∙ ap (numbered_as e 8 w64 W.I64) (of_z-to_z w64 n lt)) at v text h
flat_same e WireType-F.U16 at v text h = numbered_same e 2 w16 (λ n. V.U16 n) W.U16 _ rolls_u16 (λ n lt. roll_u16 e n) at v text h
flat_same e WireType-F.U32 at v text h = numbered_same e 4 w32 (λ n. V.U32 n) W.U32 _ rolls_u32 (λ n lt. roll_u32 e n) at v text h
flat_same e WireType-F.U64 at v text h = numbered_same e 8 w64 (λ n. V.U64 n) W.U64 _ rolls_u64 (λ n lt. roll_u64 e n) at v text h
flat_same e WireType-F.Double at v text h = numbered_same e 8 w64 (λ n. V.Double n) W.Double _ rolls_double (λ n lt. roll_double e n) at v text h
flat_same e WireType-F.Handle at v text h = numbered_same e 4 w32 (λ n. V.Handle n) W.Handle _ rolls_handle (λ n lt. roll_handle e n) at v text h
flat_same e WireType-F.Str at v text h = texted_same e _ (λ s. V.Str s) W.Str _ rolls_str (λ s. roll_str e s) at v text h
flat_same e WireType-F.ObjectPath at v text h = texted_same e _ (λ s. V.ObjectPath s) W.ObjectPath _ rolls_path (λ s. roll_path e s) at v text h
flat_same e WireType-F.Signature at v text h = made e at v (V.Signature h.0) (spell_step e (Value-F.Signature h.0)) text _ h.1 (roll_signature e h.0) (h.4 ∙ ap (λ (w : List ℕ). w ++ (h.0 ++ 0 ∷ [])) (sym (one_byte (length h.0) (omega (arith, h.3.1.2))))) rolls_signature
flat_same e t at v text h = absurd h

module _ (S : WireType → ℕ → Value → List ℕ → Type 0) (e : Endian)
    (same : (t : WireType) (at : ℕ) (v : Value) (text : List ℕ) → S t at v text → (text ≡ spelling e at v) × ((spelled e v).0 ≡ t)) where
  members_same : (ts : List WireType) (vs : List Value) (at : ℕ) (text : List ℕ) → Members S ts vs at text → (text ≡ spellings e at vs) × (map (λ (s : Spelled). s.0) (map (spelled e) vs) ≡ ts)
  members_same [] [] at text h = (h, refl)
  members_same [] (v ∷ vs) at text h = absurd h
  members_same (t ∷ ts) [] at text h = absurd h
  members_same (t ∷ ts) (v ∷ vs) at text h =
      let a = same t at v h.0 h.3 in
      let b = members_same ts vs (at + length h.0) h.1 h.4 in
      (rw (h.2, b.0, a.0) refl, rw (a.1, b.1) refl)

  elements_same : (t : WireType) (vs : List Value) (at : ℕ) (text : List ℕ) → Elements S t vs at text → text ≡ spellings e at vs
  elements_same t [] at text h = h
  elements_same t (v ∷ vs) at text h =
      let a = same t at v h.0 h.3 in
      let b = elements_same t vs (at + length h.0) h.1 h.4 in
      rw (h.2, b, a.0) refl

  -- each element has the type
  element_kinds : (t : WireType) (vs : List Value) (at : ℕ) (text : List ℕ) → Elements S t vs at text → All (λ v. type_of v ≡ t) vs
  element_kinds t [] at text h = All-nil (λ v. type_of v ≡ t)
  element_kinds t (v ∷ vs) at text h =
      let a = same t at v h.0 h.3 in
      All-cons (λ v. type_of v ≡ t) v vs (sym (spelled_kind e v) ∙ a.1) (element_kinds t vs (at + length h.0) h.1 h.4)

  row_same : (t : WireType-F WireType) (at : ℕ) (v : Value) (text : List ℕ) → Row S e t at v text → (text ≡ spelling e at v) × ((spelled e v).0 ≡ roll-WireType t)
  row_same (WireType-F.Array t) at v text h =
      let b = h.2 in
      let body = elements_same t b.0 (at + gap 4 at + 4 + gap (alignment t) (at + gap 4 at + 4)) b.1 b.5 in
      let kinds = element_kinds t b.0 (at + gap 4 at + 4 + gap (alignment t) (at + gap 4 at + 4)) b.1 b.5 in
      made e at v (array_of t b.0) (spell_step e (Value-F.Array t (map (spelled e) b.0))) text _ b.2 (array_spelled e t b.0 kinds) (rw (h.1, b.4, body) refl) (rolls_array t)
  row_same (WireType-F.Struct ts) at v text h =
      let b = h.2 in
      let body = members_same ts b.0 (at + gap 8 at) h.0 b.3 in
      made e at v (V.Struct b.0) (spell_step e (Value-F.Struct (map (spelled e) b.0))) text _ b.1 (roll_struct e b.0) (rw (h.1, body.0) refl) (ap W.Struct body.1 ∙ rolls_struct ts)
  row_same (WireType-F.DictEntry t u) at v text h =
      let b = h.2 in
      let body = members_same (t ∷ u ∷ []) (b.0 ∷ b.1 ∷ []) (at + gap 8 at) h.0 b.3 in
      let k = same t (at + gap 8 at) b.0 b.3.0 b.3.3 in
      let x = same u (at + gap 8 at + length b.3.0) b.1 b.3.4.0 b.3.4.3 in
      made e at v (V.DictEntry b.0 b.1) (spell_step e (Value-F.DictEntry (spelled e b.0) (spelled e b.1))) text _ b.2 (roll_entry e b.0 b.1) (rw (h.1, body.0) refl) (rw (k.1, x.1) (rolls_entry t u))
  row_same WireType-F.Variant at v text h =
      let name : List ℕ = type_text h.0 in
      let x = same h.0 (at + (1 + length name + 1)) h.1 h.2 h.6 in
      let n : name ≡ type_text (spelled e h.1).0 = ap type_text (sym x.1) in
      made e at v (V.Variant h.1) (spell_step e (Value-F.Variant (spelled e h.1))) text _ h.3 (roll_variant e h.1)
      (h.5 ∙ (ap (λ (w : List ℕ). w ++ (name ++ 0 ∷ h.2)) (sym (one_byte (length name) (omega (arith, h.4.1)))) ∙ ap (λ (w : List ℕ). to_le_bytes w8 (length name) ++ (name ++ 0 ∷ w)) x.0 ∙ ap (λ (w : List ℕ). variant_body w (spelled e h.1).1 at) n)) rolls_variant
  row_same t at v text h = flat_same e t at v text h

-- What spells a value is its spelling, and its type is the type.
pub spells_same : (n : ℕ) (e : Endian) (t : WireType) (at : ℕ) (v : Value) (text : List ℕ) → SpellsWithin n e t at v text → (text ≡ spelling e at v) × ((spelled e v).0 ≡ t)
unfolding SpellsWithin
spells_same zero e t at v text h = let a = row_same NoneInside e (λ t at v text h. absurd h) (out-WireType t) at v text h in (a.0, a.1 ∙ roll_out t)
spells_same (suc n) e t at v text h = let a = row_same (SpellsWithin n e) e (spells_same n e) (out-WireType t) at v text h in (a.0, a.1 ∙ roll_out t)
