-- A value that keeps the rules is spelled by its spelling, where that is no longer than an array
-- may be.
use Rattle.std.proofs.Common.{◌≡◌, ℕ, zero, suc, ◌+◌, ◌-◌, ◌<◌, ◌≤◌, ◌^◌, ℤ, List, [], ◌∷◌, ◌++◌, length, map, replicate, refl, sym, ap, subst, ◌∙◌, arith}
use Rattle.std.specs.Prelude.{All, FitsSigned}
use Rattle.std.specs.Int.{Width, w8, w16, w32, w64, to_le_bytes, cast_signed, cast_unsigned}
use Rattle.std.proofs.lemmas.Int.{to_z-of_z}
use Rattle.std.proofs.lemmas.List.{length-append}
use Rattle.std.proofs.lemmas.List.Elements.{All-head, All-tail, All-cons, All-nil, All-map, All-weaker}
use mir.ValLaws.{of_z_fits}
use Rattle.dbus_types.specs.declared.types.Endian.{Endian}
use Rattle.dbus_types.specs.declared.types.WireType.{WireType, out-WireType, roll-WireType, the_lemmas as type_lemmas}
use Rattle.dbus_types.specs.declared.types.WireType.TheOpen.{WireType-F}
use Rattle.dbus_types.specs.declared.types.WireType.TheVariants as W
use Rattle.dbus_types.specs.declared.types.Value.{Value, out-Value, roll-Value, the_lemmas}
use Rattle.dbus_types.specs.declared.types.Value.TheOpen.{Value-F}
use Rattle.dbus_types.specs.declared.types.Value.TheVariants as V
use Rattle.dbus_types.specs.declared.roles.Role.{Role}
use Rattle.dbus_types.specs.Types.{role, alignment, type_text, arrays_deep, brackets_deep, Fits, IsVariantType}
use Rattle.dbus_values.specs.Values.{type_of, IsText, LeafKeeps, ValueKeeps, KeepsWithin, KeepsRules, array_of}
use Rattle.dbus_types.proofs.TypesWithinLimits.{Stands, ElementFits, fits_element, fits_array, fits_struct, element_entry, element_fits, array_complete, struct_complete}
use Rattle.dbus_values.specs.Spells.{number, gap, bit, IsPath, Aligned, BoolRow, NumberRow, TextRow, ArrayRow, StructRow, EntryRow, Members, Elements, Flat, Row, NoneInside, SpellsWithin, Spells}
use Rattle.dbus_values.specs.Spelling.{aligned, in_row, text_body, array_body, Spelled, spell_step, spelled, spelling, spellings}
use Rattle.dbus_marshal.proofs.SpelledKeepsRules.{type_byte, type_bool, type_i16, type_u16, type_i32, type_u32, type_i64, type_u64, type_double, type_handle, type_str, type_path, type_signature, type_variant, type_array, type_struct, type_entry, rolls_struct, rolls_entry}
use Rattle.dbus_values.proofs.PackedBytes.{array_spelled, of_bytes, of_others, type_array as array_type}
use Rattle.dbus_values.proofs.OneSpelling.{roll_byte, roll_bool, roll_i16, roll_u16, roll_i32, roll_u32, roll_i64, roll_u64, roll_double, roll_handle, roll_str, roll_path, roll_signature, roll_variant, roll_struct, roll_entry, one_byte, spells_same}
use Rattle.dbus_marshal.proofs.AsciiNames.{path_text, signature_text}

-- no longer than the elements of an array may be
abbrev pub Small : List ℕ → Type 0
Small bytes = length bytes ≤ 67_108_864

-- ---- what is inside stands where it may

within_own : (t : WireType) → Stands (role t) → ElementFits (arrays_deep t) (brackets_deep t) t
within_own t h = (h, omega arith, omega arith)

element_stands : (t u : WireType) → t ≡ W.Array u → Stands (role t) → Stands (role u)
element_stands t u e h =
    let f : Fits (arrays_deep t) (brackets_deep t) t = element_fits (arrays_deep t) (brackets_deep t) t (within_own t h) (array_complete t u e h) in
    (fits_array (arrays_deep t) (brackets_deep t) u (subst (Fits (arrays_deep t) (brackets_deep t)) e f)).1.0

members_stand : (t : WireType) (us : List WireType) → t ≡ W.Struct us → Stands (role t) → (0 < length us) × All (λ u. Stands (role u)) us
members_stand t us e h =
    let a : ℕ = arrays_deep t in
    let b : ℕ = brackets_deep t in
    let f : Fits a b t = element_fits a b t (within_own t h) (struct_complete t us e h) in
    let k = fits_struct a b us (subst (Fits a b) e f) in
    (k.1, All-weaker (Fits a (b - 1)) (λ u. Stands (role u)) (λ u x. (fits_element a (b - 1) u x).0) us k.2)

entry_stands : (t k v : WireType) → t ≡ W.DictEntry k v → Stands (role t) → Stands (role k) × Stands (role v)
entry_stands t k v e h =
    let a : ℕ = arrays_deep t in
    let b : ℕ = brackets_deep t in
    let f = element_entry a b k v (subst (ElementFits a b) e (within_own t h)) in
    (subst (λ (r : Role). Stands r) (sym f.1) tt, (fits_element a (b - 1) v f.2).0)

-- ---- a value with no other inside

out_roll : (g : WireType-F WireType) → out-WireType (roll-WireType g) ≡ g
out_roll g = search type_lemmas

-- What holds of the type and the spelling at the value's outer layer holds of the value's.
layered : (e : Endian) (at : ℕ) (v u : Value) (g : WireType-F WireType) (s : Spelled) (R : WireType-F WireType → List ℕ → Type 0)
    → v ≡ u → type_of u ≡ roll-WireType g → spelled e u ≡ s → (Small (s.1 at) → R g (s.1 at)) → Small (spelling e at v) → R (out-WireType (type_of v)) (spelling e at v)
layered e at v u g s R a b c k small =
    let text : spelling e at v ≡ s.1 at = ap (λ (x : Value). spelling e at x) a ∙ ap (λ (z : Spelled). z.1 at) c in
    let kind : out-WireType (type_of v) ≡ g = ap (λ (x : Value). out-WireType (type_of x)) a ∙ (ap out-WireType b ∙ out_roll g) in
    subst (λ (x : WireType-F WireType). R x (spelling e at v)) (sym kind) (subst (λ (w : List ℕ). R g w) (sym text) (k (subst Small text small)))

-- a body behind padding
behind : (to at : ℕ) (Body : ℕ → List ℕ → Type 0) (body : ℕ → List ℕ) → Body (at + gap to at) (body (at + gap to at)) → Aligned to at Body (aligned to body at)
behind to at Body body h = (body (at + gap to at), refl, h)

-- a signed number is that of its bits
signed_row : (e : Endian) (w : Width) (make : ℤ → Value) (v : Value) (start : ℕ) (z : ℤ) → FitsSigned w z → v ≡ make z → NumberRow e w (λ n. make (cast_signed w n)) v start (number e w (cast_unsigned w z))
signed_row e w make v start z fits is = (cast_unsigned w z, is ∙ ap make (sym (to_z-of_z w z fits)), (of_z_fits w z fits).fits, refl)

-- the text behind its length is no longer than the whole
text_short : (e : Endian) (at : ℕ) (text : List ℕ) → Small (aligned 4 (λ start. text_body e text) at) → length text < 2 ^ 32
text_short e at text small =
    let le : length text ≤ 67_108_864 = omega (arith, small, length-append (replicate (gap 4 at) 0) (text_body e text), length-append (number e w32 (length text)) (text ++ 0 ∷ []), length-append text (0 ∷ [])) in
    omega (arith, le)

flat_has : (e : Endian) (at : ℕ) (v : Value) (f : Value-F Value) → v ≡ roll-Value f → LeafKeeps f → Small (spelling e at v) → Flat e (out-WireType (type_of v)) at v (spelling e at v)
flat_has e at v (Value-F.Byte n) is h small =
    let r : V.Byte n ≡ roll-Value (Value-F.Byte n) = search the_lemmas in
    let u : v ≡ V.Byte n = is ∙ sym r in
    layered e at v (V.Byte n) WireType-F.Byte (spell_step e (Value-F.Byte n)) (λ g w. Flat e g at v w) u (type_byte n) (roll_byte e n) (λ s. (n, u, h, refl)) small
flat_has e at v (Value-F.Bool b) is h small =
    let r : V.Bool b ≡ roll-Value (Value-F.Bool b) = search the_lemmas in
    let u : v ≡ V.Bool b = is ∙ sym r in
    layered e at v (V.Bool b) WireType-F.Bool (spell_step e (Value-F.Bool b)) (λ g w. Flat e g at v w) u (type_bool b) (roll_bool e b) (λ s. behind 4 at (BoolRow e v) (λ start. number e w32 (bit b)) (b, u, refl)) small
flat_has e at v (Value-F.I16 z) is h small =
    let r : V.I16 z ≡ roll-Value (Value-F.I16 z) = search the_lemmas in
    let u : v ≡ V.I16 z = is ∙ sym r in
    layered e at v (V.I16 z) WireType-F.I16 (spell_step e (Value-F.I16 z)) (λ g w. Flat e g at v w) u (type_i16 z) (roll_i16 e z) (λ s. behind 2 at (NumberRow e w16 (λ n. V.I16 (cast_signed w16 n)) v) (λ start. number e w16 (cast_unsigned w16 z)) (signed_row e w16 V.I16 v (at + gap 2 at) z h u)) small
flat_has e at v (Value-F.U16 n) is h small =
    let r : V.U16 n ≡ roll-Value (Value-F.U16 n) = search the_lemmas in
    let u : v ≡ V.U16 n = is ∙ sym r in
    layered e at v (V.U16 n) WireType-F.U16 (spell_step e (Value-F.U16 n)) (λ g w. Flat e g at v w) u (type_u16 n) (roll_u16 e n) (λ s. behind 2 at (NumberRow e w16 (λ k. V.U16 k) v) (λ start. number e w16 n) (n, u, h, refl)) small
flat_has e at v (Value-F.I32 z) is h small =
    let r : V.I32 z ≡ roll-Value (Value-F.I32 z) = search the_lemmas in
    let u : v ≡ V.I32 z = is ∙ sym r in
    layered e at v (V.I32 z) WireType-F.I32 (spell_step e (Value-F.I32 z)) (λ g w. Flat e g at v w) u (type_i32 z) (roll_i32 e z) (λ s. behind 4 at (NumberRow e w32 (λ n. V.I32 (cast_signed w32 n)) v) (λ start. number e w32 (cast_unsigned w32 z)) (signed_row e w32 V.I32 v (at + gap 4 at) z h u)) small
flat_has e at v (Value-F.U32 n) is h small =
    let r : V.U32 n ≡ roll-Value (Value-F.U32 n) = search the_lemmas in
    let u : v ≡ V.U32 n = is ∙ sym r in
    layered e at v (V.U32 n) WireType-F.U32 (spell_step e (Value-F.U32 n)) (λ g w. Flat e g at v w) u (type_u32 n) (roll_u32 e n) (λ s. behind 4 at (NumberRow e w32 (λ k. V.U32 k) v) (λ start. number e w32 n) (n, u, h, refl)) small
flat_has e at v (Value-F.I64 z) is h small =
    let r : V.I64 z ≡ roll-Value (Value-F.I64 z) = search the_lemmas in
    let u : v ≡ V.I64 z = is ∙ sym r in
    layered e at v (V.I64 z) WireType-F.I64 (spell_step e (Value-F.I64 z)) (λ g w. Flat e g at v w) u (type_i64 z) (roll_i64 e z) (λ s. behind 8 at (NumberRow e w64 (λ n. V.I64 (cast_signed w64 n)) v) (λ start. number e w64 (cast_unsigned w64 z)) (signed_row e w64 V.I64 v (at + gap 8 at) z h u)) small
flat_has e at v (Value-F.U64 n) is h small =
    let r : V.U64 n ≡ roll-Value (Value-F.U64 n) = search the_lemmas in
    let u : v ≡ V.U64 n = is ∙ sym r in
    layered e at v (V.U64 n) WireType-F.U64 (spell_step e (Value-F.U64 n)) (λ g w. Flat e g at v w) u (type_u64 n) (roll_u64 e n) (λ s. behind 8 at (NumberRow e w64 (λ k. V.U64 k) v) (λ start. number e w64 n) (n, u, h, refl)) small
flat_has e at v (Value-F.Double n) is h small =
    let r : V.Double n ≡ roll-Value (Value-F.Double n) = search the_lemmas in
    let u : v ≡ V.Double n = is ∙ sym r in
    layered e at v (V.Double n) WireType-F.Double (spell_step e (Value-F.Double n)) (λ g w. Flat e g at v w) u (type_double n) (roll_double e n) (λ s. behind 8 at (NumberRow e w64 (λ k. V.Double k) v) (λ start. number e w64 n) (n, u, h, refl)) small
flat_has e at v (Value-F.Handle n) is h small =
    let r : V.Handle n ≡ roll-Value (Value-F.Handle n) = search the_lemmas in
    let u : v ≡ V.Handle n = is ∙ sym r in
    layered e at v (V.Handle n) WireType-F.Handle (spell_step e (Value-F.Handle n)) (λ g w. Flat e g at v w) u (type_handle n) (roll_handle e n) (λ s. behind 4 at (NumberRow e w32 (λ k. V.Handle k) v) (λ start. number e w32 n) (n, u, h, refl)) small
flat_has e at v (Value-F.Str t) is h small =
    let r : V.Str t ≡ roll-Value (Value-F.Str t) = search the_lemmas in
    let u : v ≡ V.Str t = is ∙ sym r in
    layered e at v (V.Str t) WireType-F.Str (spell_step e (Value-F.Str t)) (λ g w. Flat e g at v w) u (type_str t) (roll_str e t) (λ s. behind 4 at (TextRow e IsText (λ text. V.Str text) v) (λ start. text_body e t) (t, u, h, text_short e at t s, refl)) small
flat_has e at v (Value-F.ObjectPath t) is h small =
    let r : V.ObjectPath t ≡ roll-Value (Value-F.ObjectPath t) = search the_lemmas in
    let u : v ≡ V.ObjectPath t = is ∙ sym r in
    layered e at v (V.ObjectPath t) WireType-F.ObjectPath (spell_step e (Value-F.ObjectPath t)) (λ g w. Flat e g at v w) u (type_path t) (roll_path e t) (λ s. behind 4 at (TextRow e IsPath (λ text. V.ObjectPath text) v) (λ start. text_body e t) (t, u, (path_text t h, h), text_short e at t s, refl)) small
flat_has e at v (Value-F.Signature t) is h small =
    let r : V.Signature t ≡ roll-Value (Value-F.Signature t) = search the_lemmas in
    let u : v ≡ V.Signature t = is ∙ sym r in
    layered e at v (V.Signature t) WireType-F.Signature (spell_step e (Value-F.Signature t)) (λ g w. Flat e g at v w) u (type_signature t) (roll_signature e t)
    (λ s. (t, u, signature_text t h, h, ap (λ (w : List ℕ). w ++ (t ++ 0 ∷ [])) (one_byte (length t) (omega (arith, h.1.2))))) small
flat_has e at v (Value-F.Variant x) is h small = absurd h
flat_has e at v (Value-F.Bytes bytes) is h small = absurd h
flat_has e at v (Value-F.Array t vs) is h small = absurd h
flat_has e at v (Value-F.Struct vs) is h small = absurd h
flat_has e at v (Value-F.DictEntry k x) is h small = absurd h

flat_row : (S : WireType → ℕ → Value → List ℕ → Type 0) (e : Endian) (g : WireType-F WireType) (at : ℕ) (v : Value) (text : List ℕ) → Flat e g at v text → Row S e g at v text
flat_row S e (WireType-F.Array t) at v text h = absurd h
flat_row S e (WireType-F.Struct ts) at v text h = absurd h
flat_row S e (WireType-F.DictEntry t u) at v text h = absurd h
flat_row S e WireType-F.Variant at v text h = absurd h
flat_row S e g at v text h = h

-- ---- a value with others inside

module _ (S : WireType → ℕ → Value → List ℕ → Type 0) (Inside : Value → Type 0) (e : Endian)
    (has : (at : ℕ) (v : Value) → Inside v → Stands (role (type_of v)) → Small (spelling e at v) → S (type_of v) at v (spelling e at v))
    (same : (t : WireType) (at : ℕ) (v : Value) (text : List ℕ) → S t at v text → (spelled e v).0 ≡ t) where
  members_have : (vs : List Value) (at : ℕ) → All Inside vs → All (λ v. Stands (role (type_of v))) vs → Small (spellings e at vs) → Members S (map type_of vs) vs at (spellings e at vs)
  members_have [] at h k small = refl
  members_have (v ∷ vs) at h k small =
      let first : List ℕ = spelling e at v in
      let rest : List ℕ = spellings e (at + length first) vs in
      let len = length-append first rest in (
        first,
        rest,
        refl,
        has at v (All-head Inside v vs h) (All-head (λ x. Stands (role (type_of x))) v vs k) (omega (arith, small, len)),
        members_have vs (at + length first) (All-tail Inside v vs h) (All-tail (λ x. Stands (role (type_of x))) v vs k) (omega (arith, small, len)),
      )

  elements_have : (t : WireType) (vs : List Value) (at : ℕ) → All (λ v. (type_of v ≡ t) × Inside v) vs → Stands (role t) → Small (spellings e at vs) → Elements S t vs at (spellings e at vs)
  elements_have t [] at h k small = refl
  elements_have t (v ∷ vs) at h k small =
      let first : List ℕ = spelling e at v in
      let rest : List ℕ = spellings e (at + length first) vs in
      let len = length-append first rest in
      let x = All-head (λ y. (type_of y ≡ t) × Inside y) v vs h in (
        first,
        rest,
        refl,
        subst (λ (u : WireType). S u at v first) x.0 (has at v x.1 (subst (λ (u : WireType). Stands (role u)) (sym x.0) k) (omega (arith, small, len))),
        elements_have t vs (at + length first) (All-tail (λ y. (type_of y ≡ t) × Inside y) v vs h) k (omega (arith, small, len)),
      )

  array_has : (at : ℕ) (v : Value) (t : WireType) (vs : List Value) → v ≡ array_of t vs → All (λ x. (type_of x ≡ t) × Inside x) vs → Stands (role (type_of v)) → Small (spelling e at v)
      → Row S e (out-WireType (type_of v)) at v (spelling e at v)
  array_has at v t vs u h k small =
      let start : ℕ = at + gap 4 at in
      let to : ℕ = alignment t in
      let begins : ℕ = start + 4 + gap to (start + 4) in
      let body : List ℕ = spellings e begins vs in
      layered e at v (array_of t vs) (WireType-F.Array t) (spell_step e (Value-F.Array t (map (spelled e) vs))) (λ g w. Row S e g at v w) u (type_array t vs) (array_spelled e t vs (All-weaker (λ x. (type_of x ≡ t) × Inside x) (λ x. type_of x ≡ t) (λ x y. y.0) vs h))
      (λ s.
      let fits : length body ≤ 67_108_864 = omega (
        arith,
        s,
        length-append (replicate (gap 4 at) 0) (array_body e to (map (spelled e) vs) start),
        length-append (number e w32 (length body)) (replicate (gap to (start + 4)) 0 ++ body),
        length-append (replicate (gap to (start + 4)) 0) body,
      ) in
      behind 4 at (ArrayRow S e t v) (array_body e to (map (spelled e) vs)) (vs, body, u, fits, refl, elements_have t vs begins h (element_stands (type_of v) t (ap type_of u ∙ array_type t vs) k) fits)) small

  listed_has : (at : ℕ) (v : Value) (t : WireType) (vs : List Value) → v ≡ roll-Value (Value-F.Array t vs) → (t ≡ W.Byte → ⊥) → All (λ x. (type_of x ≡ t) × Inside x) vs → Stands (role (type_of v)) → Small (spelling e at v)
      → Row S e (out-WireType (type_of v)) at v (spelling e at v)
  listed_has at v t vs is none h k small =
      let r : V.Array t vs ≡ roll-Value (Value-F.Array t vs) = search the_lemmas in
      array_has at v t vs (is ∙ (sym r ∙ sym (of_others t vs none))) h k small

  bytes_have : (at : ℕ) (v : Value) (bytes : List ℕ) → v ≡ roll-Value (Value-F.Bytes bytes) → All (λ n. Inside (V.Byte n)) bytes → Stands (role (type_of v)) → Small (spelling e at v)
      → Row S e (out-WireType (type_of v)) at v (spelling e at v)
  bytes_have at v bytes is h k small =
      let r : V.Bytes bytes ≡ roll-Value (Value-F.Bytes bytes) = search the_lemmas in
      let P : Value → Type 0 = λ x. (type_of x ≡ W.Byte) × Inside x in
      let items : All P (map (λ n. V.Byte n) bytes) = All-map P (λ n. V.Byte n) bytes (All-weaker (λ n. Inside (V.Byte n)) (λ n. P (V.Byte n)) (λ n x. (kind_of_byte n, x)) bytes h) in
      array_has at v W.Byte (map (λ n. V.Byte n) bytes) (is ∙ (sym r ∙ sym (of_bytes bytes))) items k small
    where
      kind_of_byte : (n : ℕ) → type_of (V.Byte n) ≡ W.Byte
      kind_of_byte n = search the_lemmas

  struct_has : (at : ℕ) (v : Value) (vs : List Value) → v ≡ roll-Value (Value-F.Struct vs) → All Inside vs → Stands (role (type_of v)) → Small (spelling e at v)
      → Row S e (out-WireType (type_of v)) at v (spelling e at v)
  struct_has at v vs is h k small =
      let r : V.Struct vs ≡ roll-Value (Value-F.Struct vs) = search the_lemmas in
      let u : v ≡ V.Struct vs = is ∙ sym r in
      let m = members_stand (type_of v) (map type_of vs) (ap type_of u ∙ type_struct vs) k in
      let start : ℕ = at + gap 8 at in
      let body : List ℕ = spellings e start vs in
      layered e at v (V.Struct vs) (WireType-F.Struct (map type_of vs)) (spell_step e (Value-F.Struct (map (spelled e) vs))) (λ g w. Row S e g at v w) u (type_struct vs ∙ rolls_struct (map type_of vs)) (roll_struct e vs)
      (λ s.
      let fits : Small body = omega (arith, s, length-append (replicate (gap 8 at) 0) body) in
      behind 8 at (StructRow S (map type_of vs) v) (in_row (map (spelled e) vs)) (vs, u, m.0, members_have vs start h (from_map vs m.1) fits)) small
    where
      from_map : (xs : List Value) → All (λ t. Stands (role t)) (map type_of xs) → All (λ x. Stands (role (type_of x))) xs
      from_map [] q = All-nil (λ x. Stands (role (type_of x)))
      from_map (x ∷ xs) q = All-cons (λ y. Stands (role (type_of y))) x xs (All-head (λ t. Stands (role t)) (type_of x) (map type_of xs) q) (from_map xs (All-tail (λ t. Stands (role t)) (type_of x) (map type_of xs) q))

  entry_has : (at : ℕ) (v k x : Value) → v ≡ roll-Value (Value-F.DictEntry k x) → Inside k → Inside x → Stands (role (type_of v)) → Small (spelling e at v)
      → Row S e (out-WireType (type_of v)) at v (spelling e at v)
  entry_has at v k x is hk hx s' small =
      let r : V.DictEntry k x ≡ roll-Value (Value-F.DictEntry k x) = search the_lemmas in
      let u : v ≡ V.DictEntry k x = is ∙ sym r in
      let m = entry_stands (type_of v) (type_of k) (type_of x) (ap type_of u ∙ type_entry k x) s' in
      let start : ℕ = at + gap 8 at in
      let body : List ℕ = spellings e start (k ∷ x ∷ []) in
      let P : Value → Type 0 = λ y. Stands (role (type_of y)) in
      layered e at v (V.DictEntry k x) (WireType-F.DictEntry (type_of k) (type_of x)) (spell_step e (Value-F.DictEntry (spelled e k) (spelled e x))) (λ g w. Row S e g at v w) u
      (type_entry k x ∙ rolls_entry (type_of k) (type_of x)) (roll_entry e k x)
      (λ s.
      let fits : Small body = omega (arith, s, length-append (replicate (gap 8 at) 0) body) in
      behind 8 at (EntryRow S (type_of k) (type_of x) v) (in_row (spelled e k ∷ spelled e x ∷ [])) (
        k,
        x,
        u,
        members_have (k ∷ x ∷ []) start (All-cons Inside k (x ∷ []) hk (All-cons Inside x [] hx (All-nil Inside))) (All-cons P k (x ∷ []) m.0 (All-cons P x [] m.1 (All-nil P))) fits,
      )) small

  variant_has : (at : ℕ) (v x : Value) → v ≡ roll-Value (Value-F.Variant x) → IsVariantType (type_of x) → Inside x → Small (spelling e at v)
      → Row S e (out-WireType (type_of v)) at v (spelling e at v)
  variant_has at v x is kind h small =
      let r : V.Variant x ≡ roll-Value (Value-F.Variant x) = search the_lemmas in
      let u : v ≡ V.Variant x = is ∙ sym r in
      let t : WireType = (spelled e x).0 in
      let name : List ℕ = type_text t in
      let next : ℕ = at + (1 + length name + 1) in
      let inside : List ℕ = spelling e next x in
      layered e at v (V.Variant x) WireType-F.Variant (spell_step e (Value-F.Variant (spelled e x))) (λ g w. Row S e g at v w) u (type_variant x) (roll_variant e x)
      (λ s.
      let fits : Small inside = omega (arith, s, length-append (to_le_bytes w8 (length name)) (name ++ 0 ∷ inside), length-append name (0 ∷ inside)) in
      let found : S (type_of x) next x inside = has next x h (fits_element 32 32 (type_of x) kind.0).0 fits in
      let is_type : t ≡ type_of x = same (type_of x) next x inside found in
      let own : IsVariantType t = subst IsVariantType (sym is_type) kind in
      (t, x, inside, u, own, ap (λ (w : List ℕ). w ++ (name ++ 0 ∷ inside)) (one_byte (length name) (omega (arith, own.1))), subst (λ (y : WireType). S y next x inside) (sym is_type) found)) small

  value_has : (at : ℕ) (v : Value) (f : Value-F Value) → v ≡ roll-Value f → ValueKeeps Inside f → Stands (role (type_of v)) → Small (spelling e at v) → Row S e (out-WireType (type_of v)) at v (spelling e at v)
  value_has at v (Value-F.Variant x) is h k small = variant_has at v x is h.0 h.1 small
  value_has at v (Value-F.Bytes bytes) is h k small = bytes_have at v bytes is h k small
  value_has at v (Value-F.Array t vs) is h k small = listed_has at v t vs is h.0 h.1 k small
  value_has at v (Value-F.Struct vs) is h k small = struct_has at v vs is h k small
  value_has at v (Value-F.DictEntry x y) is h k small = entry_has at v x y is h.0 h.1 k small
  value_has at v f is h k small = flat_row S e (out-WireType (type_of v)) at v (spelling e at v) (flat_has e at v f is h small)

roll_out : (v : Value) → v ≡ roll-Value (out-Value v)
roll_out v = let e : roll-Value (out-Value v) ≡ v = search the_lemmas in sym e

within_has : (n : ℕ) (e : Endian) (at : ℕ) (v : Value) → KeepsWithin n v → Stands (role (type_of v)) → Small (spelling e at v) → SpellsWithin n e (type_of v) at v (spelling e at v)
unfolding KeepsWithin SpellsWithin
within_has zero e at v h k small = value_has NoneInside (λ inside. ⊥) e (λ at v h. absurd h) (λ t at v text h. absurd h) at v (out-Value v) (roll_out v) h k small
within_has (suc n) e at v h k small = value_has (SpellsWithin n e) (KeepsWithin n) e (within_has n e) (λ t at v text h. (spells_same n e t at v text h).1) at v (out-Value v) (roll_out v) h k small

pub every_spelled : (e : Endian) (at : ℕ) (v : Value) → KeepsRules v → Small (spelling e at v) → Spells e at (type_of v) v (spelling e at v)
every_spelled e at v h small = within_has 64 e at v h.1 (fits_element 32 32 (type_of v) h.0).0 small
