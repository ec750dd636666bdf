-- A value that is spelled has the type and keeps the rules of values.
use Rattle.std.proofs.Common.{◌≡◌, ℕ, zero, suc, ◌+◌, ℤ, Bool, List, [], ◌∷◌, length, map, refl, sym, ap, subst, ◌∙◌}
use Rattle.std.specs.Prelude.{All}
use Rattle.std.specs.Int.{w16, w32, w64, cast_signed}
use Rattle.std.proofs.lemmas.List.Elements.{All-cons, All-nil}
use borrow.Author.Gap.{read_sfits}
use Rattle.dbus_types.specs.declared.types.Endian.{Endian}
use Rattle.dbus_types.specs.declared.types.WireType.{WireType, out-WireType, roll-WireType, the_lemmas as type_lemmas}
use Rattle.dbus_types.specs.declared.types.WireType.TheOpen.{WireType-F}
use Rattle.dbus_types.specs.declared.types.WireType.TheVariants as W
use Rattle.dbus_types.specs.declared.types.Value.{Value, out-Value, the_lemmas}
use Rattle.dbus_types.specs.declared.types.Value.TheOpen.{Value-F}
use Rattle.dbus_types.specs.declared.types.Value.TheVariants as V
use Rattle.dbus_types.specs.Types.{IsValidType, IsVariantType}
use Rattle.dbus_values.specs.Values.{type_of, LeafKeeps, ValueKeeps, KeepsWithin, KeepsRules, array_of}
use Rattle.dbus_values.specs.Spells.{Members, Elements, Flat, Row, NoneInside, SpellsWithin, Spells}
use Rattle.dbus_values.proofs.PackedBytes.{array_keeps, type_array as array_type}

out_byte : (n : ℕ) → out-Value (V.Byte n) ≡ Value-F.Byte n
out_byte n = search the_lemmas

pub type_byte : (n : ℕ) → type_of (V.Byte n) ≡ roll-WireType WireType-F.Byte
type_byte n = let e : W.Byte ≡ roll-WireType WireType-F.Byte = search type_lemmas in let d : type_of (V.Byte n) ≡ W.Byte = search the_lemmas in d ∙ e

out_bool : (b : Bool) → out-Value (V.Bool b) ≡ Value-F.Bool b
out_bool b = search the_lemmas

pub type_bool : (b : Bool) → type_of (V.Bool b) ≡ roll-WireType WireType-F.Bool
type_bool b = let e : W.Bool ≡ roll-WireType WireType-F.Bool = search type_lemmas in let d : type_of (V.Bool b) ≡ W.Bool = search the_lemmas in d ∙ e

out_i16 : (z : ℤ) → out-Value (V.I16 z) ≡ Value-F.I16 z
out_i16 z = search the_lemmas

pub type_i16 : (z : ℤ) → type_of (V.I16 z) ≡ roll-WireType WireType-F.I16
type_i16 z = let e : W.I16 ≡ roll-WireType WireType-F.I16 = search type_lemmas in let d : type_of (V.I16 z) ≡ W.I16 = search the_lemmas in d ∙ e

out_u16 : (n : ℕ) → out-Value (V.U16 n) ≡ Value-F.U16 n
out_u16 n = search the_lemmas

pub type_u16 : (n : ℕ) → type_of (V.U16 n) ≡ roll-WireType WireType-F.U16
type_u16 n = let e : W.U16 ≡ roll-WireType WireType-F.U16 = search type_lemmas in let d : type_of (V.U16 n) ≡ W.U16 = search the_lemmas in d ∙ e

out_i32 : (z : ℤ) → out-Value (V.I32 z) ≡ Value-F.I32 z
out_i32 z = search the_lemmas

pub type_i32 : (z : ℤ) → type_of (V.I32 z) ≡ roll-WireType WireType-F.I32
type_i32 z = let e : W.I32 ≡ roll-WireType WireType-F.I32 = search type_lemmas in let d : type_of (V.I32 z) ≡ W.I32 = search the_lemmas in d ∙ e

out_u32 : (n : ℕ) → out-Value (V.U32 n) ≡ Value-F.U32 n
out_u32 n = search the_lemmas

pub type_u32 : (n : ℕ) → type_of (V.U32 n) ≡ roll-WireType WireType-F.U32
type_u32 n = let e : W.U32 ≡ roll-WireType WireType-F.U32 = search type_lemmas in let d : type_of (V.U32 n) ≡ W.U32 = search the_lemmas in d ∙ e

out_i64 : (z : ℤ) → out-Value (V.I64 z) ≡ Value-F.I64 z
out_i64 z = search the_lemmas

pub type_i64 : (z : ℤ) → type_of (V.I64 z) ≡ roll-WireType WireType-F.I64
type_i64 z = let e : W.I64 ≡ roll-WireType WireType-F.I64 = search type_lemmas in let d : type_of (V.I64 z) ≡ W.I64 = search the_lemmas in d ∙ e

out_u64 : (n : ℕ) → out-Value (V.U64 n) ≡ Value-F.U64 n
out_u64 n = search the_lemmas

pub type_u64 : (n : ℕ) → type_of (V.U64 n) ≡ roll-WireType WireType-F.U64
type_u64 n = let e : W.U64 ≡ roll-WireType WireType-F.U64 = search type_lemmas in let d : type_of (V.U64 n) ≡ W.U64 = search the_lemmas in d ∙ e

out_double : (n : ℕ) → out-Value (V.Double n) ≡ Value-F.Double n
out_double n = search the_lemmas

pub type_double : (n : ℕ) → type_of (V.Double n) ≡ roll-WireType WireType-F.Double
type_double n = let e : W.Double ≡ roll-WireType WireType-F.Double = search type_lemmas in let d : type_of (V.Double n) ≡ W.Double = search the_lemmas in d ∙ e

out_handle : (n : ℕ) → out-Value (V.Handle n) ≡ Value-F.Handle n
out_handle n = search the_lemmas

pub type_handle : (n : ℕ) → type_of (V.Handle n) ≡ roll-WireType WireType-F.Handle
type_handle n = let e : W.Handle ≡ roll-WireType WireType-F.Handle = search type_lemmas in let d : type_of (V.Handle n) ≡ W.Handle = search the_lemmas in d ∙ e

out_str : (s : List ℕ) → out-Value (V.Str s) ≡ Value-F.Str s
out_str s = search the_lemmas

pub type_str : (s : List ℕ) → type_of (V.Str s) ≡ roll-WireType WireType-F.Str
type_str s = let e : W.Str ≡ roll-WireType WireType-F.Str = search type_lemmas in let d : type_of (V.Str s) ≡ W.Str = search the_lemmas in d ∙ e

out_path : (s : List ℕ) → out-Value (V.ObjectPath s) ≡ Value-F.ObjectPath s
out_path s = search the_lemmas

pub type_path : (s : List ℕ) → type_of (V.ObjectPath s) ≡ roll-WireType WireType-F.ObjectPath
type_path s = let e : W.ObjectPath ≡ roll-WireType WireType-F.ObjectPath = search type_lemmas in let d : type_of (V.ObjectPath s) ≡ W.ObjectPath = search the_lemmas in d ∙ e

out_signature : (s : List ℕ) → out-Value (V.Signature s) ≡ Value-F.Signature s
out_signature s = search the_lemmas

pub type_signature : (s : List ℕ) → type_of (V.Signature s) ≡ roll-WireType WireType-F.Signature
type_signature s = let e : W.Signature ≡ roll-WireType WireType-F.Signature = search type_lemmas in let d : type_of (V.Signature s) ≡ W.Signature = search the_lemmas in d ∙ e

out_variant : (x : Value) → out-Value (V.Variant x) ≡ Value-F.Variant x
out_variant x = search the_lemmas

out_struct : (vs : List Value) → out-Value (V.Struct vs) ≡ Value-F.Struct vs
out_struct vs = search the_lemmas

out_entry : (k x : Value) → out-Value (V.DictEntry k x) ≡ Value-F.DictEntry k x
out_entry k x = search the_lemmas

pub type_variant : (x : Value) → type_of (V.Variant x) ≡ roll-WireType WireType-F.Variant
type_variant x = let e : W.Variant ≡ roll-WireType WireType-F.Variant = search type_lemmas in let d : type_of (V.Variant x) ≡ W.Variant = search the_lemmas in d ∙ e

pub type_array : (t : WireType) (vs : List Value) → type_of (array_of t vs) ≡ roll-WireType (WireType-F.Array t)
type_array t vs = let e : W.Array t ≡ roll-WireType (WireType-F.Array t) = search type_lemmas in array_type t vs ∙ e

pub type_struct : (vs : List Value) → type_of (V.Struct vs) ≡ W.Struct (map type_of vs)
type_struct vs = search the_lemmas

pub type_entry : (k x : Value) → type_of (V.DictEntry k x) ≡ W.DictEntry (type_of k) (type_of x)
type_entry k x = search the_lemmas

pub rolls_struct : (ts : List WireType) → W.Struct ts ≡ roll-WireType (WireType-F.Struct ts)
rolls_struct ts = search type_lemmas

pub rolls_entry : (t u : WireType) → W.DictEntry t u ≡ roll-WireType (WireType-F.DictEntry t u)
rolls_entry t u = search type_lemmas

roll_out : (t : WireType) → roll-WireType (out-WireType t) ≡ t
roll_out t = search type_lemmas

leaf : (v u : Value) (f : Value-F Value) (t : WireType) → v ≡ u → out-Value u ≡ f → type_of u ≡ t → LeafKeeps f → LeafKeeps (out-Value v) × (type_of v ≡ t)
leaf v u f t a b c k = (subst LeafKeeps (sym (ap out-Value a ∙ b)) k, ap type_of a ∙ c)

flat_keeps : (e : Endian) (t : WireType-F WireType) (at : ℕ) (v : Value) (text : List ℕ) → Flat e t at v text → LeafKeeps (out-Value v) × (type_of v ≡ roll-WireType t)
flat_keeps e WireType-F.Byte at v text h = leaf v (V.Byte h.0) (Value-F.Byte h.0) _ h.1 (out_byte h.0) (type_byte h.0) h.2
flat_keeps e WireType-F.Bool at v text h = let b = h.2 in leaf v (V.Bool b.0) (Value-F.Bool b.0) _ b.1 (out_bool b.0) (type_bool b.0) tt
flat_keeps e WireType-F.I16 at v text h = let b = h.2 in leaf v (V.I16 (cast_signed w16 b.0)) (Value-F.I16 (cast_signed w16 b.0)) _ b.1 (out_i16 (cast_signed w16 b.0)) (type_i16 (cast_signed w16 b.0)) (read_sfits w16 b.0)
flat_keeps e WireType-F.I32 at v text h = let b = h.2 in leaf v (V.I32 (cast_signed w32 b.0)) (Value-F.I32 (cast_signed w32 b.0)) _ b.1 (out_i32 (cast_signed w32 b.0)) (type_i32 (cast_signed w32 b.0)) (read_sfits w32 b.0)
flat_keeps e WireType-F.I64 at v text h = let b = h.2 in leaf v (V.I64 (cast_signed w64 b.0)) (Value-F.I64 (cast_signed w64 b.0)) _ b.1 (out_i64 (cast_signed w64 b.0)) (type_i64 (cast_signed w64 b.0)) (read_sfits w64 b.0)
flat_keeps e WireType-F.U16 at v text h = let b = h.2 in leaf v (V.U16 b.0) (Value-F.U16 b.0) _ b.1 (out_u16 b.0) (type_u16 b.0) b.2
flat_keeps e WireType-F.U32 at v text h = let b = h.2 in leaf v (V.U32 b.0) (Value-F.U32 b.0) _ b.1 (out_u32 b.0) (type_u32 b.0) b.2
flat_keeps e WireType-F.U64 at v text h = let b = h.2 in leaf v (V.U64 b.0) (Value-F.U64 b.0) _ b.1 (out_u64 b.0) (type_u64 b.0) b.2
flat_keeps e WireType-F.Double at v text h = let b = h.2 in leaf v (V.Double b.0) (Value-F.Double b.0) _ b.1 (out_double b.0) (type_double b.0) b.2
flat_keeps e WireType-F.Handle at v text h = let b = h.2 in leaf v (V.Handle b.0) (Value-F.Handle b.0) _ b.1 (out_handle b.0) (type_handle b.0) b.2
flat_keeps e WireType-F.Str at v text h = let b = h.2 in leaf v (V.Str b.0) (Value-F.Str b.0) _ b.1 (out_str b.0) (type_str b.0) b.2
flat_keeps e WireType-F.ObjectPath at v text h = let b = h.2 in leaf v (V.ObjectPath b.0) (Value-F.ObjectPath b.0) _ b.1 (out_path b.0) (type_path b.0) b.2.1
flat_keeps e WireType-F.Signature at v text h = leaf v (V.Signature h.0) (Value-F.Signature h.0) _ h.1 (out_signature h.0) (type_signature h.0) h.3
flat_keeps e t at v text h = absurd h

leaf_more : (Inside : Value → Type 0) (f : Value-F Value) → LeafKeeps f → ValueKeeps Inside f
leaf_more Inside (Value-F.Variant v) h = absurd h
leaf_more Inside (Value-F.Bytes bytes) h = absurd h
leaf_more Inside (Value-F.Array t vs) h = absurd h
leaf_more Inside (Value-F.Struct vs) h = absurd h
leaf_more Inside (Value-F.DictEntry k v) h = absurd h
leaf_more Inside f h = h

module _ (S : WireType → ℕ → Value → List ℕ → Type 0) (Inside : Value → Type 0)
    (keeps : (t : WireType) (at : ℕ) (v : Value) (text : List ℕ) → S t at v text → Inside v × (type_of v ≡ t)) where
  members_keep : (ts : List WireType) (vs : List Value) (at : ℕ) (text : List ℕ) → Members S ts vs at text → All Inside vs × (map type_of vs ≡ ts)
  members_keep [] [] at text h = (All-nil Inside, refl)
  members_keep [] (v ∷ vs) at text h = absurd h
  members_keep (t ∷ ts) [] at text h = absurd h
  members_keep (t ∷ ts) (v ∷ vs) at text h =
      let a = keeps t at v h.0 h.3 in
      let b = members_keep ts vs (at + length h.0) h.1 h.4 in
      (All-cons Inside v vs a.0 b.0, rw (a.1, b.1) refl)

  elements_keep : (t : WireType) (vs : List Value) (at : ℕ) (text : List ℕ) → Elements S t vs at text → All (λ v. (type_of v ≡ t) × Inside v) vs
  elements_keep t [] at text h = All-nil (λ v. (type_of v ≡ t) × Inside v)
  elements_keep t (v ∷ vs) at text h =
      let a = keeps t at v h.0 h.3 in
      All-cons (λ v. (type_of v ≡ t) × Inside v) v vs (a.1, a.0) (elements_keep t vs (at + length h.0) h.1 h.4)

  branch : (v u : Value) (f : Value-F Value) (t : WireType) → v ≡ u → out-Value u ≡ f → type_of u ≡ t → ValueKeeps Inside f → ValueKeeps Inside (out-Value v) × (type_of v ≡ t)
  branch v u f t a b c k = (subst (ValueKeeps Inside) (sym (ap out-Value a ∙ b)) k, ap type_of a ∙ c)

  row_keeps : (e : Endian) (t : WireType-F WireType) (at : ℕ) (v : Value) (text : List ℕ) → Row S e t at v text → ValueKeeps Inside (out-Value v) × (type_of v ≡ roll-WireType t)
  row_keeps e (WireType-F.Array t) at v text h =
      let b = h.2 in
      branch v (array_of t b.0) (out-Value (array_of t b.0)) _ b.2 refl (type_array t b.0) (array_keeps Inside t b.0 (elements_keep t b.0 _ b.1 b.5))
  row_keeps e (WireType-F.Struct ts) at v text h =
      let b = h.2 in
      let k = members_keep ts b.0 _ h.0 b.3 in
      branch v (V.Struct b.0) (Value-F.Struct b.0) _ b.1 (out_struct b.0) (type_struct b.0 ∙ (ap W.Struct k.1 ∙ rolls_struct ts)) k.0
  row_keeps e (WireType-F.DictEntry t u) at v text h =
      let b = h.2 in
      let k = keeps t _ b.0 b.3.0 b.3.3 in
      let x = keeps u _ b.1 b.3.4.0 b.3.4.3 in
      branch v (V.DictEntry b.0 b.1) (Value-F.DictEntry b.0 b.1) _ b.2 (out_entry b.0 b.1) (type_entry b.0 b.1 ∙ rw (k.1, x.1) (rolls_entry t u)) (k.0, x.0)
  row_keeps e WireType-F.Variant at v text h =
      let x = keeps h.0 _ h.1 h.2 h.6 in
      branch v (V.Variant h.1) (Value-F.Variant h.1) _ h.3 (out_variant h.1) (type_variant h.1) (subst IsVariantType (sym x.1) h.4, x.0)
  row_keeps e t at v text h = let a = flat_keeps e t at v text h in (leaf_more Inside (out-Value v) a.0, a.1)

within_keeps : (n : ℕ) (e : Endian) (t : WireType) (at : ℕ) (v : Value) (text : List ℕ) → SpellsWithin n e t at v text → KeepsWithin n v × (type_of v ≡ t)
unfolding SpellsWithin KeepsWithin
within_keeps zero e t at v text h = let a = row_keeps NoneInside (λ inside. ⊥) (λ t at v text h. absurd h) e (out-WireType t) at v text h in (a.0, a.1 ∙ roll_out t)
within_keeps (suc n) e t at v text h = let a = row_keeps (SpellsWithin n e) (KeepsWithin n) (within_keeps n e) e (out-WireType t) at v text h in (a.0, a.1 ∙ roll_out t)

-- What is spelled keeps the rules of values, where its type keeps those of types.
pub spelled_keeps : (e : Endian) (at : ℕ) (t : WireType) (v : Value) (text : List ℕ) → Spells e at t v text → IsValidType t → (type_of v ≡ t) × KeepsRules v
spelled_keeps e at t v text h valid = let a = within_keeps 64 e t at v text h in (a.1, (subst IsValidType (sym a.1) valid, a.0))
