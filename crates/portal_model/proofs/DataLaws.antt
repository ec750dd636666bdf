-- Data passes its test exactly where its variant is spelled.
use Rattle.std.proofs.Common.{◌≡◌, ℕ, zero, suc, ◌+◌, ◌<◌, ◌≤◌, ◌^◌, nat_lt, nat_le, ℤ, pos, negsuc, List, [], ◌∷◌, ◌++◌, length, map, Bool, true, false, not, ◌&&◌, cond, Result, Ok, Err, refl, sym, ap, subst, ◌∙◌, ◌⊎◌, inl, inr, arith, replicate}
use Rattle.std.specs.Prelude.{All, FitsSigned}
use Rattle.std.specs.Int.{Width, w16, w32, w64, cast_signed, cast_unsigned}
use Rattle.std.specs.List.{list_all}
use Rattle.std.specs.Str.{is_utf8}
use Rattle.std.proofs.lemmas.Bool.{true≢false}
use Rattle.std.proofs.lemmas.Bool.Decides.{nat_tests}
use Rattle.std.proofs.lemmas.Int.{to_z-of_z}
use Rattle.std.proofs.lemmas.List.Elements.{All-cons, All-head, All-nil, All-tail}
use Rattle.std.proofs.lemmas.Str.{IsUtf8-from_is_utf8, is_utf8-from_IsUtf8}
use borrow.Author.Gap.{read_sfits}
use mir.ValLaws.{of_z_fits}
use Rattle.dbus_types.specs.declared.errors.SignatureError.{SignatureError}
use Rattle.dbus_types.specs.declared.types.Endian.TheVariants.{Little}
use Rattle.dbus_types.specs.declared.types.WireType.{WireType, out-WireType, the_lemmas as type_lemmas}
use Rattle.dbus_types.specs.declared.types.WireType.TheOpen.{WireType-F}
use Rattle.dbus_types.specs.declared.types.WireType.TheVariants as W
use Rattle.dbus_types.specs.declared.types.Value.{Value, out-Value, roll-Value, the_lemmas}
use Rattle.dbus_types.specs.declared.types.Value.TheFolds.{ind-Value, map-Value, fold-roll-Value}
use Rattle.dbus_types.specs.declared.types.Value.TheOpen.{Value-F}
use Rattle.dbus_types.specs.declared.types.Value.TheVariants as V
use Rattle.dbus_types.specs.Names.{is_path}
use Rattle.dbus_types.specs.Reading.{whole_at}
use Rattle.dbus_values.specs.Spells.{gap, number, bit, Aligned, ArrayRow, BoolRow, EntryRow, IsPath, NumberRow, StructRow, TextRow, Elements, Members, NoneInside, Row, Spells, SpellsWithin}
use Rattle.dbus_values.specs.Spelling.{Spelled, aligned, array_body, bytes_body, in_row, spell_step, spelled, spelling, spellings, text_body}
use Rattle.dbus_types.specs.Types.{alignment, arrays_deep, brackets_deep, is_single, role, type_text, IsSignature, IsVariantType}
use Rattle.dbus_values.specs.Values.{IsSignatureText, IsText, nesting, nesting_step, one_around, type_of, type_step, array_of, byte_of}
use Rattle.dbus_types.specs.Types.{greatest}
use Rattle.dbus_values.proofs.OneSpelling.{one_byte, roll_byte, spells_same}
use Rattle.dbus_values.proofs.PackedBytes.{bytes_are as packed_are, bytes_in_row, byte_alignment, byte_or_not, bytes_of as packed_of, no_gap, of_bytes, of_others}
use Rattle.dbus_values.proofs.SpelledType.{spelled_kind}
use Rattle.dbus_types.proofs.WholeSignatures.{short_reading, whole_again}
use Rattle.portal_base.specs.Names.{is_byte_of_path, is_same}
use Rattle.portal_base.proofs.NoZeros.{all_from_test, test_from_all}
use Rattle.portal_model.specs.declared.records.EntryRecord.{EntryRecord}
use Rattle.portal_model.specs.declared.store.StoredEntry.{StoredEntry}
use Rattle.portal_model.specs.Changed.{HasDatum, IsDatum, changed_length, holds_handle, message_limit}
use Rattle.portal_model.specs.Data.{Judged, all_keep, data_bytes, elements_at, is_byte, is_data, is_of_type, is_read, is_signature, is_spelled, is_text_value, is_valid_type, is_variant_type, is_within, judge, judged, keeps_array, spelled_of}
use Rattle.portal_model.specs.State.{is_none}
use Rattle.portal_model.specs.Store.{can_be_told, record_of}
use Rattle.portal_model.specs.StoreLaws.{entry_of_record}
use Rattle.portal_model.specs.Valid.{has_entry_texts, is_valid_entry}
use Rattle.portal_model.proofs.DocumentChanges.{both, first_of_both, second_of_both}
use Rattle.portal_model.proofs.ListLookups.{is_same-eq, is_same-refl}
use Rattle.portal_model.proofs.TypeTexts.{one-type}

-- ---- what is judged is what is spelled

abbrev Agrees : Value → Type 0
Agrees v = (judged v).0 ≡ spelled Little v

abbrev Such : Type 0
Such = (v : Value) × Agrees v

all_agree : (xs : List Such) → map spelled_of (map judged (map (λ x. x.0) xs)) ≡ map (spelled Little) (map (λ x. x.0) xs)
all_agree [] = refl
all_agree (x ∷ xs) = λ i. x.1 i ∷ all_agree xs i

agrees_layer : (y : Value-F Such) → (judge (map-Value Value Judged judged (map-Value Such Value (λ x. x.0) y))).0 ≡ spell_step Little (map-Value Value Spelled (spelled Little) (map-Value Such Value (λ x. x.0) y))
agrees_layer (Value-F.Variant x) = ap (λ (s : Spelled). spell_step Little (Value-F.Variant s)) x.1
agrees_layer (Value-F.Array t xs) = ap (λ (ss : List Spelled). spell_step Little (Value-F.Array t ss)) (all_agree xs)
agrees_layer (Value-F.Struct xs) = ap (λ (ss : List Spelled). spell_step Little (Value-F.Struct ss)) (all_agree xs)
agrees_layer (Value-F.DictEntry k x) = λ i. spell_step Little (Value-F.DictEntry (k.1 i) (x.1 i))
agrees_layer y = refl

pub judged-spelled : (v : Value) → (judged v).0 ≡ spelled Little v
judged-spelled = ind-Value Agrees (λ x y is.
    ap (λ (j : Judged). j.0) (fold-roll-Value Judged judge x)
    ∙ (subst (λ (z : Value-F Value). (judge (map-Value Value Judged judged z)).0 ≡ spell_step Little (map-Value Value Spelled (spelled Little) z)) is (agrees_layer y)
    ∙ sym (fold-roll-Value Spelled (spell_step Little) x)))

pub judged_text : (at : ℕ) (v : Value) → (judged v).0.1 at ≡ spelling Little at v
judged_text at v = ap (λ (s : Spelled). s.1 at) (judged-spelled v)

pub judged_type : (v : Value) → (judged v).0.0 ≡ type_of v
judged_type v = ap (λ (s : Spelled). s.0) (judged-spelled v) ∙ spelled_kind Little v

pub all_spelled : (vs : List Value) → map spelled_of (map judged vs) ≡ map (spelled Little) vs
all_spelled [] = refl
all_spelled (v ∷ vs) = λ i. judged-spelled v i ∷ all_spelled vs i

-- ---- tests of values with no other inside

pub below : (n m : ℕ) → nat_lt n m ≡ true → n < m
below n m h = grind (arith, nat_tests)

pub at_most : (n m : ℕ) → nat_le n m ≡ true → n ≤ m
at_most n m h = grind (arith, nat_tests)

fits_16 : (z : ℤ) → is_within (2 ^ 15) z ≡ true → FitsSigned w16 z
fits_16 (pos n) h = record { sfits = below n (2 ^ 15) h }
fits_16 (negsuc n) h = record { sfits = below n (2 ^ 15) h }

fits_32 : (z : ℤ) → is_within (2 ^ 31) z ≡ true → FitsSigned w32 z
fits_32 (pos n) h = record { sfits = below n (2 ^ 31) h }
fits_32 (negsuc n) h = record { sfits = below n (2 ^ 31) h }

fits_64 : (z : ℤ) → is_within (2 ^ 63) z ≡ true → FitsSigned w64 z
fits_64 (pos n) h = record { sfits = below n (2 ^ 63) h }
fits_64 (negsuc n) h = record { sfits = below n (2 ^ 63) h }

text_is : (text : List ℕ) → is_text_value text ≡ true → IsText text × (length text < 2 ^ 32)
text_is text h =
    let rest = list_all is_byte_of_path text && nat_lt (length text) (2 ^ 32) in
    let behind : rest ≡ true = second_of_both (is_utf8 text) rest h in (
      (
        IsUtf8-from_is_utf8 text (first_of_both (is_utf8 text) rest h),
        all_from_test text (first_of_both (list_all is_byte_of_path text) (nat_lt (length text) (2 ^ 32)) behind),
      ),
      below (length text) (2 ^ 32) (second_of_both (list_all is_byte_of_path text) (nat_lt (length text) (2 ^ 32)) behind),
    )

signature_is : (text : List ℕ) → is_signature text ≡ true → IsSignatureText text
signature_is text h = by_reading (whole_at 32 32 text) refl (second_of_both (nat_le (length text) 255) (is_read (whole_at 32 32 text)) h)
  where
    short : length text ≤ 255
    short = at_most (length text) 255 (first_of_both (nat_le (length text) 255) (is_read (whole_at 32 32 text)) h)

    by_reading : (r : Result (List WireType) SignatureError) → whole_at 32 32 text ≡ r → is_read r ≡ true → IsSignatureText text
    by_reading (Ok ts) e k = (ts, short_reading text (Ok ts) short e)
    by_reading (Err error) e k = cc

pub variant_is : (t : WireType) → is_variant_type t ≡ true → IsVariantType t
variant_is t h =
    let valid = is_valid_type t in
    let whole : valid ≡ true = first_of_both valid (nat_le (length (type_text t)) 255) h in
    let deep = nat_le (arrays_deep t) 32 && nat_le (brackets_deep t) 32 in
    let limits : deep ≡ true = second_of_both (is_single (role t)) deep whole in (
      (
        first_of_both (is_single (role t)) deep whole,
        at_most (arrays_deep t) 32 (first_of_both (nat_le (arrays_deep t) 32) (nat_le (brackets_deep t) 32) limits),
        at_most (brackets_deep t) 32 (second_of_both (nat_le (arrays_deep t) 32) (nat_le (brackets_deep t) 32) limits),
      ),
      at_most (length (type_text t)) 255 (second_of_both valid (nat_le (length (type_text t)) 255) h),
    )

-- ---- the layers of a value

-- what stands inside
abbrev Parts : (Value → Type 0) → Value-F Value → Type 0
Parts P (Value-F.Variant x) = P x
Parts P (Value-F.Bytes bytes) = All (λ n. P (V.Byte n)) bytes
Parts P (Value-F.Array t vs) = All P vs
Parts P (Value-F.Struct vs) = All P vs
Parts P (Value-F.DictEntry k x) = P k × P x
Parts P _ = Unit {0}

type_layer : (f : Value-F Value) → type_of (roll-Value f) ≡ type_step (map-Value Value WireType type_of f)
type_layer f = fold-roll-Value WireType type_step f

abbrev shape_of : Value-F Value → WireType-F WireType
shape_of (Value-F.Byte n) = WireType-F.Byte
shape_of (Value-F.Bool b) = WireType-F.Bool
shape_of (Value-F.I16 z) = WireType-F.I16
shape_of (Value-F.U16 n) = WireType-F.U16
shape_of (Value-F.I32 z) = WireType-F.I32
shape_of (Value-F.U32 n) = WireType-F.U32
shape_of (Value-F.I64 z) = WireType-F.I64
shape_of (Value-F.U64 n) = WireType-F.U64
shape_of (Value-F.Double n) = WireType-F.Double
shape_of (Value-F.Str text) = WireType-F.Str
shape_of (Value-F.ObjectPath text) = WireType-F.ObjectPath
shape_of (Value-F.Signature text) = WireType-F.Signature
shape_of (Value-F.Handle n) = WireType-F.Handle
shape_of (Value-F.Variant x) = WireType-F.Variant
shape_of (Value-F.Bytes bytes) = WireType-F.Array W.Byte
shape_of (Value-F.Array t vs) = WireType-F.Array t
shape_of (Value-F.Struct vs) = WireType-F.Struct (map type_of vs)
shape_of (Value-F.DictEntry k x) = WireType-F.DictEntry (type_of k) (type_of x)

out_layer : (f : Value-F Value) → out-WireType (type_step (map-Value Value WireType type_of f)) ≡ shape_of f
out_layer (Value-F.Bytes bytes) = search type_lemmas
out_layer (Value-F.Array t vs) = search type_lemmas
out_layer (Value-F.Struct vs) = search type_lemmas
out_layer (Value-F.DictEntry k x) = search type_lemmas
out_layer f = search type_lemmas

shape_is : (f : Value-F Value) → out-WireType (type_of (roll-Value f)) ≡ shape_of f
shape_is f = ap (λ (t : WireType). out-WireType t) (type_layer f) ∙ out_layer f

abbrev bytes_of : Value-F Value → ℕ → List ℕ
bytes_of f at = (spell_step Little (map-Value Value Spelled (spelled Little) f)).1 at

bytes_are : (f : Value-F Value) (at : ℕ) → spelling Little at (roll-Value f) ≡ bytes_of f at
bytes_are f at = ap (λ (s : Spelled). s.1 at) (fold-roll-Value Spelled (spell_step Little) f)

-- ---- bytes, which are packed

pub judged_byte : (n : ℕ) → judged (V.Byte n) ≡ judge (Value-F.Byte n)
judged_byte n = search the_lemmas

type_byte : (n : ℕ) → type_of (V.Byte n) ≡ W.Byte
type_byte n = search the_lemmas

nesting_byte : (n : ℕ) → nesting (V.Byte n) ≡ 0
nesting_byte n = search the_lemmas

pub no_byte : (t : WireType) → not (is_byte t) ≡ true → t ≡ W.Byte → ⊥
no_byte t h is =
    let byte : is_byte t ≡ true = ap (λ (u : WireType). is_same (type_text u) (type_text W.Byte)) is ∙ is_same-refl (type_text W.Byte) in
    true≢false (sym h ∙ ap not byte)

pub other_kind : (t : WireType) → (t ≡ W.Byte → ⊥) → not (is_byte t) ≡ true
other_kind t none = by_test (is_byte t) refl
  where
    by_test : (b : Bool) → is_byte t ≡ b → not b ≡ true
    by_test true e = absurd (none (one-type t W.Byte (is_same-eq (type_text t) (type_text W.Byte) e)))
    by_test false e = refl

-- ---- a value that passes is spelled

behind : (to at : ℕ) (Body : ℕ → List ℕ → Type 0) (body : ℕ → List ℕ) → Body (at + gap to at) (body (at + gap to at)) → Aligned to at Body (aligned to body at)
behind to at Body body h = (body (at + gap to at), refl, h)

signed_row : (w : Width) (make : ℤ → Value) (v : Value) (start : ℕ) (z : ℤ) → FitsSigned w z → v ≡ make z → NumberRow Little w (λ n. make (cast_signed w n)) v start (number Little w (cast_unsigned w z))
signed_row w make v start z fits is = (cast_unsigned w z, is ∙ ap make (sym (to_z-of_z w z fits)), (of_z_fits w z fits).fits, refl)

module _ (S : WireType → ℕ → Value → List ℕ → Type 0) (Inside : Value → Type 0)
    (has : (at : ℕ) (v : Value) → Inside v → (judged v).1 at ≡ true → S (type_of v) at v (spelling Little at v)) where
  rest_kept : (v : Value) (vs : List Value) (at : ℕ) → all_keep (map judged (v ∷ vs)) at ≡ true → ((judged v).1 at ≡ true) × (all_keep (map judged vs) (at + length (spelling Little at v)) ≡ true)
  rest_kept v vs at h = (
    first_of_both ((judged v).1 at) (all_keep (map judged vs) (at + length ((judged v).0.1 at))) h,
    ap (λ (bytes : List ℕ). all_keep (map judged vs) (at + length bytes)) (sym (judged_text at v))
        ∙ second_of_both ((judged v).1 at) (all_keep (map judged vs) (at + length ((judged v).0.1 at))) h,
  )

  members_kept : (vs : List Value) (at : ℕ) → All Inside vs → all_keep (map judged vs) at ≡ true → Members S (map type_of vs) vs at (spellings Little at vs)
  members_kept [] at k h = refl
  members_kept (v ∷ vs) at k h =
      let first : List ℕ = spelling Little at v in
      let two = rest_kept v vs at h in
      (first, spellings Little (at + length first) vs, refl, has at v (All-head Inside v vs k) two.0, members_kept vs (at + length first) (All-tail Inside v vs k) two.1)

  same_kind : (t : WireType) (v : Value) → is_of_type t (judged v) ≡ true → type_of v ≡ t
  same_kind t v h = one-type (type_of v) t (ap type_text (sym (judged_type v)) ∙ is_same-eq (type_text (judged v).0.0) (type_text t) h)

  elements_kept : (t : WireType) (vs : List Value) (at : ℕ) → All Inside vs → list_all (is_of_type t) (map judged vs) ≡ true → all_keep (map judged vs) at ≡ true → Elements S t vs at (spellings Little at vs)
  elements_kept t [] at k d h = refl
  elements_kept t (v ∷ vs) at k d h =
      let first : List ℕ = spelling Little at v in
      let two = rest_kept v vs at h in
      let kind : type_of v ≡ t = same_kind t v (first_of_both (is_of_type t (judged v)) (list_all (is_of_type t) (map judged vs)) d) in (
        first,
        spellings Little (at + length first) vs,
        refl,
        subst (λ (u : WireType). S u at v first) kind (has at v (All-head Inside v vs k) two.0),
        elements_kept t vs (at + length first) (All-tail Inside v vs k) (second_of_both (is_of_type t (judged v)) (list_all (is_of_type t) (map judged vs)) d) two.1,
      )

  array_kept : (at : ℕ) (t : WireType) (vs : List Value) → All Inside vs → (not (is_byte t) && keeps_array t (map judged vs) (elements_at t at)) ≡ true → Row S Little (WireType-F.Array t) at (roll-Value (Value-F.Array t vs)) (bytes_of (Value-F.Array t vs) at)
  array_kept at t vs k g =
      let r : V.Array t vs ≡ roll-Value (Value-F.Array t vs) = search the_lemmas in
      let other = not (is_byte t) in
      let none : t ≡ W.Byte → ⊥ = no_byte t (first_of_both other (keeps_array t (map judged vs) (elements_at t at)) g) in
      let h : keeps_array t (map judged vs) (elements_at t at) ≡ true = second_of_both other (keeps_array t (map judged vs) (elements_at t at)) g in
      let first : ℕ = elements_at t at in
      let js : List Judged = map judged vs in
      let types = list_all (is_of_type t) js in
      let short = nat_le (length (in_row (map spelled_of js) first)) 67_108_864 in
      let later : (short && all_keep js first) ≡ true = second_of_both types (short && all_keep js first) h in
      let fits : length (spellings Little first vs) ≤ 67_108_864 =
      at_most (length (spellings Little first vs)) 67_108_864 (ap (λ (ss : List Spelled). nat_le (length (in_row ss first)) 67_108_864) (sym (all_spelled vs)) ∙ first_of_both short (all_keep js first) later) in
      behind 4 at (ArrayRow S Little t (roll-Value (Value-F.Array t vs))) (array_body Little (alignment t) (map (spelled Little) vs)) (
        vs,
        spellings Little first vs,
        sym r ∙ sym (of_others t vs none),
        fits,
        refl,
        elements_kept t vs first k (first_of_both types (short && all_keep js first) h) (second_of_both short (all_keep js first) later),
      )

  byte_kept : (n at : ℕ) → Inside (V.Byte n) → nat_lt n (2 ^ 8) ≡ true → S W.Byte at (V.Byte n) (n ∷ [])
  byte_kept n at k h =
      let found : S (type_of (V.Byte n)) at (V.Byte n) (spelling Little at (V.Byte n)) = has at (V.Byte n) k (ap (λ (j : Judged). j.1 at) (judged_byte n) ∙ h) in
      subst (λ (t : WireType). S t at (V.Byte n) (n ∷ [])) (type_byte n) (subst (S (type_of (V.Byte n)) at (V.Byte n)) (ap (λ (s : Spelled). s.1 at) (roll_byte Little n)) found)

  numbers_kept : (bytes : List ℕ) (at : ℕ) → All (λ n. Inside (V.Byte n)) bytes → list_all (λ n. nat_lt n (2 ^ 8)) bytes ≡ true → Elements S W.Byte (map (λ n. V.Byte n) bytes) at bytes
  numbers_kept [] at k h = refl
  numbers_kept (n ∷ ns) at k h = (
    n ∷ [],
    ns,
    refl,
    byte_kept n at (All-head (λ m. Inside (V.Byte m)) n ns k) (first_of_both (nat_lt n (2 ^ 8)) (list_all (λ m. nat_lt m (2 ^ 8)) ns) h),
    numbers_kept ns (at + 1) (All-tail (λ m. Inside (V.Byte m)) n ns k) (second_of_both (nat_lt n (2 ^ 8)) (list_all (λ m. nat_lt m (2 ^ 8)) ns) h),
  )

  bytes_kept : (at : ℕ) (bytes : List ℕ) → All (λ n. Inside (V.Byte n)) bytes → (list_all (λ n. nat_lt n (2 ^ 8)) bytes && nat_le (length bytes) 67_108_864) ≡ true
      → Row S Little (WireType-F.Array W.Byte) at (roll-Value (Value-F.Bytes bytes)) (bytes_of (Value-F.Bytes bytes) at)
  bytes_kept at bytes k h =
      let r : V.Bytes bytes ≡ roll-Value (Value-F.Bytes bytes) = search the_lemmas in
      let numbers = list_all (λ n. nat_lt n (2 ^ 8)) bytes in
      let short = nat_le (length bytes) 67_108_864 in
      let start : ℕ = at + gap 4 at in
      let none : gap (alignment W.Byte) (start + 4) ≡ 0 = ap (λ (to : ℕ). gap to (start + 4)) byte_alignment ∙ no_gap (start + 4) in
      behind 4 at (ArrayRow S Little W.Byte (roll-Value (Value-F.Bytes bytes))) (λ start. bytes_body Little bytes) (
        map (λ n. V.Byte n) bytes,
        bytes,
        sym r ∙ sym (of_bytes bytes),
        at_most (length bytes) 67_108_864 (second_of_both numbers short h),
        ap (λ (n : ℕ). number Little w32 (length bytes) ++ (replicate n 0 ++ bytes)) (sym none),
        numbers_kept bytes (start + 4 + gap (alignment W.Byte) (start + 4)) k (first_of_both numbers short h),
      )

  some_types : (vs : List Value) → not (is_none (map judged vs)) ≡ true → 0 < length (map type_of vs)
  some_types [] h = cc
  some_types (v ∷ vs) h = omega arith

  struct_kept : (at : ℕ) (vs : List Value) → All Inside vs → (not (is_none (map judged vs)) && all_keep (map judged vs) (at + gap 8 at)) ≡ true →
      Row S Little (WireType-F.Struct (map type_of vs)) at (roll-Value (Value-F.Struct vs)) (bytes_of (Value-F.Struct vs) at)
  struct_kept at vs k h =
      let r : V.Struct vs ≡ roll-Value (Value-F.Struct vs) = search the_lemmas in
      let some = not (is_none (map judged vs)) in
      behind 8 at (StructRow S (map type_of vs) (roll-Value (Value-F.Struct vs))) (in_row (map (spelled Little) vs)) (
        vs,
        sym r,
        some_types vs (first_of_both some (all_keep (map judged vs) (at + gap 8 at)) h),
        members_kept vs (at + gap 8 at) k (second_of_both some (all_keep (map judged vs) (at + gap 8 at)) h),
      )

  entry_kept : (at : ℕ) (k x : Value) → Inside k → Inside x → all_keep (map judged (k ∷ x ∷ [])) (at + gap 8 at) ≡ true →
      Row S Little (WireType-F.DictEntry (type_of k) (type_of x)) at (roll-Value (Value-F.DictEntry k x)) (bytes_of (Value-F.DictEntry k x) at)
  entry_kept at k x ik ix h =
      let r : V.DictEntry k x ≡ roll-Value (Value-F.DictEntry k x) = search the_lemmas in
      behind 8 at (EntryRow S (type_of k) (type_of x) (roll-Value (Value-F.DictEntry k x))) (in_row (spelled Little k ∷ spelled Little x ∷ []))
      (k, x, sym r, members_kept (k ∷ x ∷ []) (at + gap 8 at) (All-cons Inside k (x ∷ []) ik (All-cons Inside x [] ix (All-nil Inside))) h)

  variant_kept : (at : ℕ) (x : Value) → Inside x → (judge (Value-F.Variant (judged x))).1 at ≡ true → Row S Little WireType-F.Variant at (roll-Value (Value-F.Variant x)) (bytes_of (Value-F.Variant x) at)
  variant_kept at x k h =
      let r : V.Variant x ≡ roll-Value (Value-F.Variant x) = search the_lemmas in
      let test : Spelled → Bool = λ s. is_variant_type s.0 && (judged x).1 (at + (1 + length (type_text s.0) + 1)) in
      let t : WireType = (spelled Little x).0 in
      let next : ℕ = at + (1 + length (type_text t) + 1) in
      let passes : (is_variant_type t && (judged x).1 next) ≡ true = ap test (sym (judged-spelled x)) ∙ h in
      let kind : IsVariantType t = variant_is t (first_of_both (is_variant_type t) ((judged x).1 next) passes) in
      let inside : List ℕ = spelling Little next x in
      let found : S t next x inside = subst (λ (u : WireType). S u next x inside) (sym (spelled_kind Little x)) (has next x k (second_of_both (is_variant_type t) ((judged x).1 next) passes)) in
      (t, x, inside, sym r, kind, ap (λ (w : List ℕ). w ++ (type_text t ++ 0 ∷ inside)) (one_byte (length (type_text t)) (omega (arith, kind.1))), found)

  row_kept : (at : ℕ) (f : Value-F Value) → Parts Inside f → (judge (map-Value Value Judged judged f)).1 at ≡ true → Row S Little (shape_of f) at (roll-Value f) (bytes_of f at)
  row_kept at (Value-F.Byte n) k h = let r : V.Byte n ≡ roll-Value (Value-F.Byte n) = search the_lemmas in (n, sym r, below n (2 ^ 8) h, refl)
  row_kept at (Value-F.Bool b) k h =
      let r : V.Bool b ≡ roll-Value (Value-F.Bool b) = search the_lemmas in
      behind 4 at (BoolRow Little (roll-Value (Value-F.Bool b))) (λ start. number Little w32 (bit b)) (b, sym r, refl)
  row_kept at (Value-F.I16 z) k h =
      let r : V.I16 z ≡ roll-Value (Value-F.I16 z) = search the_lemmas in
      let v : Value = roll-Value (Value-F.I16 z) in
      behind 2 at (NumberRow Little w16 (λ n. V.I16 (cast_signed w16 n)) v) (λ start. number Little w16 (cast_unsigned w16 z)) (signed_row w16 V.I16 v (at + gap 2 at) z (fits_16 z h) (sym r))
  row_kept at (Value-F.U16 n) k h =
      let r : V.U16 n ≡ roll-Value (Value-F.U16 n) = search the_lemmas in
      behind 2 at (NumberRow Little w16 (λ m. V.U16 m) (roll-Value (Value-F.U16 n))) (λ start. number Little w16 n) (n, sym r, below n (2 ^ 16) h, refl)
  row_kept at (Value-F.I32 z) k h =
      let r : V.I32 z ≡ roll-Value (Value-F.I32 z) = search the_lemmas in
      let v : Value = roll-Value (Value-F.I32 z) in
      behind 4 at (NumberRow Little w32 (λ n. V.I32 (cast_signed w32 n)) v) (λ start. number Little w32 (cast_unsigned w32 z)) (signed_row w32 V.I32 v (at + gap 4 at) z (fits_32 z h) (sym r))
  row_kept at (Value-F.U32 n) k h =
      let r : V.U32 n ≡ roll-Value (Value-F.U32 n) = search the_lemmas in
      behind 4 at (NumberRow Little w32 (λ m. V.U32 m) (roll-Value (Value-F.U32 n))) (λ start. number Little w32 n) (n, sym r, below n (2 ^ 32) h, refl)
  row_kept at (Value-F.I64 z) k h =
      let r : V.I64 z ≡ roll-Value (Value-F.I64 z) = search the_lemmas in
      let v : Value = roll-Value (Value-F.I64 z) in
      behind 8 at (NumberRow Little w64 (λ n. V.I64 (cast_signed w64 n)) v) (λ start. number Little w64 (cast_unsigned w64 z)) (signed_row w64 V.I64 v (at + gap 8 at) z (fits_64 z h) (sym r))
  row_kept at (Value-F.U64 n) k h =
      let r : V.U64 n ≡ roll-Value (Value-F.U64 n) = search the_lemmas in
      behind 8 at (NumberRow Little w64 (λ m. V.U64 m) (roll-Value (Value-F.U64 n))) (λ start. number Little w64 n) (n, sym r, below n (2 ^ 64) h, refl)
  row_kept at (Value-F.Double n) k h =
      let r : V.Double n ≡ roll-Value (Value-F.Double n) = search the_lemmas in
      behind 8 at (NumberRow Little w64 (λ m. V.Double m) (roll-Value (Value-F.Double n))) (λ start. number Little w64 n) (n, sym r, below n (2 ^ 64) h, refl)
  row_kept at (Value-F.Handle n) k h =
      let r : V.Handle n ≡ roll-Value (Value-F.Handle n) = search the_lemmas in
      behind 4 at (NumberRow Little w32 (λ m. V.Handle m) (roll-Value (Value-F.Handle n))) (λ start. number Little w32 n) (n, sym r, below n (2 ^ 32) h, refl)
  row_kept at (Value-F.Str text) k h =
      let r : V.Str text ≡ roll-Value (Value-F.Str text) = search the_lemmas in
      let good = text_is text h in
      behind 4 at (TextRow Little IsText (λ t. V.Str t) (roll-Value (Value-F.Str text))) (λ start. text_body Little text) (text, sym r, good.0, good.1, refl)
  row_kept at (Value-F.ObjectPath text) k h =
      let r : V.ObjectPath text ≡ roll-Value (Value-F.ObjectPath text) = search the_lemmas in
      let good = text_is text (first_of_both (is_text_value text) (is_path text) h) in
      behind 4 at (TextRow Little IsPath (λ t. V.ObjectPath t) (roll-Value (Value-F.ObjectPath text))) (λ start. text_body Little text) (text, sym r, (good.0, second_of_both (is_text_value text) (is_path text) h), good.1, refl)
  row_kept at (Value-F.Signature text) k h =
      let r : V.Signature text ≡ roll-Value (Value-F.Signature text) = search the_lemmas in
      let good = text_is text (first_of_both (is_text_value text) (is_signature text) h) in
      let read : IsSignatureText text = signature_is text (second_of_both (is_text_value text) (is_signature text) h) in
      (text, sym r, good.0, read, ap (λ (w : List ℕ). w ++ (text ++ 0 ∷ [])) (one_byte (length text) (omega (arith, read.1.2))))
  row_kept at (Value-F.Variant x) k h = variant_kept at x k h
  row_kept at (Value-F.Bytes bytes) k h = bytes_kept at bytes k h
  row_kept at (Value-F.Array t vs) k h = array_kept at t vs k h
  row_kept at (Value-F.Struct vs) k h = struct_kept at vs k h
  row_kept at (Value-F.DictEntry key x) k h = entry_kept at key x k.0 k.1 h

  -- of the whole value
  pub value_kept : (at : ℕ) (f : Value-F Value) → Parts Inside f → (judged (roll-Value f)).1 at ≡ true → Row S Little (out-WireType (type_of (roll-Value f))) at (roll-Value f) (spelling Little at (roll-Value f))
  value_kept at f k h =
      let test : (judge (map-Value Value Judged judged f)).1 at ≡ true = ap (λ (j : Judged). j.1 at) (sym (fold-roll-Value Judged judge f)) ∙ h in
      let row : Row S Little (shape_of f) at (roll-Value f) (bytes_of f at) = row_kept at f k test in
      subst (λ (g : WireType-F WireType). Row S Little g at (roll-Value f) (spelling Little at (roll-Value f))) (sym (shape_is f)) (subst (λ (bytes : List ℕ). Row S Little (shape_of f) at (roll-Value f) bytes) (sym (bytes_are f at)) row)

-- ---- how deep

most : (n m : ℕ) (ns : List ℕ) → greatest (n ∷ ns) ≤ m → (n ≤ m) × (greatest ns ≤ m)
most n m ns h = (omega arith, omega arith)

inside_most : (n : ℕ) (vs : List Value) → greatest (map nesting vs) ≤ n → All (λ v. nesting v ≤ n) vs
inside_most n [] h = All-nil (λ v. nesting v ≤ n)
inside_most n (v ∷ vs) h =
    let two = most (nesting v) n (map nesting vs) h in
    All-cons (λ x. nesting x ≤ n) v vs two.0 (inside_most n vs two.1)

none_inside : (vs : List Value) → one_around (map nesting vs) ≤ 0 → All (λ v. ⊥) vs
none_inside [] h = All-nil (λ v. ⊥)
none_inside (v ∷ vs) h = absurd (omega arith)

some_inside : (n : ℕ) (vs : List Value) → one_around (map nesting vs) ≤ suc n → All (λ v. nesting v ≤ n) vs
some_inside n [] h = All-nil (λ v. nesting v ≤ n)
some_inside n (v ∷ vs) h = inside_most n (v ∷ vs) (omega arith)

no_numbers : (bytes : List ℕ) → nesting_step (Value-F.Bytes bytes) ≤ 0 → All (λ n. ⊥) bytes
no_numbers [] h = All-nil (λ n. ⊥)
no_numbers (b ∷ bs) h = absurd (omega arith)

numbers_shallow : (n : ℕ) (bytes : List ℕ) → All (λ b. nesting (V.Byte b) ≤ n) bytes
numbers_shallow n [] = All-nil (λ b. nesting (V.Byte b) ≤ n)
numbers_shallow n (b ∷ bs) = All-cons (λ m. nesting (V.Byte m) ≤ n) b bs (omega (arith, nesting_byte b)) (numbers_shallow n bs)

no_parts : (f : Value-F Value) → nesting_step (map-Value Value ℕ nesting f) ≤ 0 → Parts (λ v. ⊥) f
no_parts (Value-F.Variant x) h = absurd (omega arith)
no_parts (Value-F.Bytes bytes) h = no_numbers bytes h
no_parts (Value-F.Array t vs) h = none_inside vs h
no_parts (Value-F.Struct vs) h = none_inside vs h
no_parts (Value-F.DictEntry k x) h = absurd (omega arith)
no_parts f h = tt

parts_within : (n : ℕ) (f : Value-F Value) → nesting_step (map-Value Value ℕ nesting f) ≤ suc n → Parts (λ v. nesting v ≤ n) f
parts_within n (Value-F.Variant x) h = omega arith
parts_within n (Value-F.Bytes bytes) h = numbers_shallow n bytes
parts_within n (Value-F.Array t vs) h = some_inside n vs h
parts_within n (Value-F.Struct vs) h = some_inside n vs h
parts_within n (Value-F.DictEntry k x) h = (omega arith, omega arith)
parts_within n f h = tt

rolls : (v : Value) → roll-Value (out-Value v) ≡ v
rolls v = search the_lemmas

nesting_layer : (n : ℕ) (f : Value-F Value) → nesting (roll-Value f) ≤ n → nesting_step (map-Value Value ℕ nesting f) ≤ n
nesting_layer n f h = subst (λ (m : ℕ). m ≤ n) (fold-roll-Value ℕ nesting_step f) h

pub kept-spells : (n : ℕ) (at : ℕ) (v : Value) → nesting v ≤ n → (judged v).1 at ≡ true → SpellsWithin n Little (type_of v) at v (spelling Little at v)
unfolding SpellsWithin
kept-spells zero at v d h =
    let f : Value-F Value = out-Value v in
    let whole : nesting (roll-Value f) ≤ 0 = subst (λ (x : Value). nesting x ≤ 0) (sym (rolls v)) d in
    let test : (judged (roll-Value f)).1 at ≡ true = ap (λ (x : Value). (judged x).1 at) (rolls v) ∙ h in
    subst (λ (x : Value). Row NoneInside Little (out-WireType (type_of x)) at x (spelling Little at x)) (rolls v)
    (value_kept NoneInside (λ x. ⊥) (λ at x k j. absurd k) at f (no_parts f (nesting_layer 0 f whole)) test)
kept-spells (suc n) at v d h =
    let f : Value-F Value = out-Value v in
    let whole : nesting (roll-Value f) ≤ suc n = subst (λ (x : Value). nesting x ≤ suc n) (sym (rolls v)) d in
    let test : (judged (roll-Value f)).1 at ≡ true = ap (λ (x : Value). (judged x).1 at) (rolls v) ∙ h in
    subst (λ (x : Value). Row (SpellsWithin n Little) Little (out-WireType (type_of x)) at x (spelling Little at x)) (rolls v)
    (value_kept (SpellsWithin n Little) (λ x. nesting x ≤ n) (kept-spells n) at f (parts_within n f (nesting_layer (suc n) f whole)) test)

-- ---- data

pub type_variant : (datum : Value) → type_of (V.Variant datum) ≡ W.Variant
type_variant datum = search the_lemmas

pub variant_holds : (datum : Value) → holds_handle (V.Variant datum) ≡ holds_handle datum
variant_holds datum = search the_lemmas

none_held : (b : Bool) → not b ≡ true → b ≡ false
none_held true h = cc
none_held false h = refl

-- what passes the test is spelled as a variant, and holds no handle
pub data-spelled : (datum : Value) → is_data datum ≡ true → IsDatum (V.Variant datum) (spelling Little 0 (V.Variant datum))
data-spelled datum h =
    let passes = (judged (V.Variant datum)).1 0 in
    let deep = nat_le (nesting (V.Variant datum)) 64 in
    let whole : is_spelled datum ≡ true = first_of_both (is_spelled datum) (not (holds_handle datum)) h in
    record {
      spelled = subst (λ (t : WireType). SpellsWithin 64 Little t 0 (V.Variant datum) (spelling Little 0 (V.Variant datum))) (type_variant datum)
          (kept-spells 64 0 (V.Variant datum) (at_most (nesting (V.Variant datum)) 64 (second_of_both passes deep whole)) (first_of_both passes deep whole));
      no_handle = variant_holds datum ∙ none_held (holds_handle datum) (second_of_both (is_spelled datum) (not (holds_handle datum)) h);
    }

-- ---- a value that is spelled passes

pub above : (n m : ℕ) → n < m → nat_lt n m ≡ true
above n m h = grind (arith, nat_tests)

pub no_more : (n m : ℕ) → n ≤ m → nat_le n m ≡ true
no_more n m h = grind (arith, nat_tests)

pub within_16 : (z : ℤ) → FitsSigned w16 z → is_within (2 ^ 15) z ≡ true
within_16 (pos n) s = above n (2 ^ 15) s.sfits
within_16 (negsuc n) s = above n (2 ^ 15) s.sfits

pub within_32 : (z : ℤ) → FitsSigned w32 z → is_within (2 ^ 31) z ≡ true
within_32 (pos n) s = above n (2 ^ 31) s.sfits
within_32 (negsuc n) s = above n (2 ^ 31) s.sfits

pub within_64 : (z : ℤ) → FitsSigned w64 z → is_within (2 ^ 63) z ≡ true
within_64 (pos n) s = above n (2 ^ 63) s.sfits
within_64 (negsuc n) s = above n (2 ^ 63) s.sfits

pub text_passes : (text : List ℕ) → IsText text → length text < 2 ^ 32 → is_text_value text ≡ true
text_passes text h l =
    both (is_utf8 text) (list_all is_byte_of_path text && nat_lt (length text) (2 ^ 32)) (is_utf8-from_IsUtf8 text h.0)
    (both (list_all is_byte_of_path text) (nat_lt (length text) (2 ^ 32)) (test_from_all text h.1) (above (length text) (2 ^ 32) l))

pub signature_passes : (text : List ℕ) → IsSignatureText text → is_signature text ≡ true
signature_passes text h =
    let s : IsSignature h.0 text = h.1 in
    both (nat_le (length text) 255) (is_read (whole_at 32 32 text)) (no_more (length text) 255 s.2) (ap (λ (r : Result (List WireType) SignatureError). is_read r) (whole_again h.0 text s.1 s.0))

pub variant_passes : (t : WireType) → IsVariantType t → is_variant_type t ≡ true
variant_passes t h =
    let valid = h.0 in
    both (is_valid_type t) (nat_le (length (type_text t)) 255)
    (both (is_single (role t)) (nat_le (arrays_deep t) 32 && nat_le (brackets_deep t) 32) valid.0 (both (nat_le (arrays_deep t) 32) (nat_le (brackets_deep t) 32) (no_more (arrays_deep t) 32 valid.1) (no_more (brackets_deep t) 32 valid.2)))
    (no_more (length (type_text t)) 255 h.1)

record Passes (k at : ℕ) (v : Value) : Type 0 where
  tested : (judged v).1 at ≡ true
  deep : nesting v ≤ k

-- what is spelled inside
record Inner (k : ℕ) (t : WireType) (at : ℕ) (v : Value) (bytes : List ℕ) : Type 0 where
  tested : (judged v).1 at ≡ true
  deep : nesting v + 1 ≤ k
  text : bytes ≡ spelling Little at v
  kind : type_of v ≡ t

layer_passes : (k at : ℕ) (v : Value) (f : Value-F Value) → v ≡ roll-Value f → (judge (map-Value Value Judged judged f)).1 at ≡ true → nesting_step (map-Value Value ℕ nesting f) ≤ k → Passes k at v
layer_passes k at v f e h d = record {
  tested = ap (λ (x : Value). (judged x).1 at) e ∙ (ap (λ (j : Judged). j.1 at) (fold-roll-Value Judged judge f) ∙ h);
  deep = subst (λ (x : Value). nesting x ≤ k) (sym e) (subst (λ (n : ℕ). n ≤ k) (sym (fold-roll-Value ℕ nesting_step f)) d);
}

least : (k : ℕ) → 0 ≤ k
least k = omega arith

module _ (S : WireType → ℕ → Value → List ℕ → Type 0) (k : ℕ) (inside : (t : WireType) (at : ℕ) (v : Value) (bytes : List ℕ) → S t at v bytes → Inner k t at v bytes) where
  abbrev Shallow : Value → Type 0
  Shallow v = nesting v + 1 ≤ k

  around : (v : Value) (vs : List Value) → All Shallow (v ∷ vs) → greatest (map nesting (v ∷ vs)) + 1 ≤ k
  around v [] a = let one : nesting v + 1 ≤ k = All-head Shallow v [] a in omega arith
  around v (w ∷ ws) a =
      let one : nesting v + 1 ≤ k = All-head Shallow v (w ∷ ws) a in
      let rest : greatest (map nesting (w ∷ ws)) + 1 ≤ k = around w ws (All-tail Shallow v (w ∷ ws) a) in
      omega arith

  around_all : (vs : List Value) → All Shallow vs → one_around (map nesting vs) ≤ k
  around_all [] a = least k
  around_all (v ∷ vs) a = around v vs a

  keeps_on : (at : ℕ) (v : Value) (vs : List Value) (first : List ℕ) → first ≡ spelling Little at v → (judged v).1 at ≡ true → all_keep (map judged vs) (at + length first) ≡ true → all_keep (map judged (v ∷ vs)) at ≡ true
  keeps_on at v vs first e h m =
      both ((judged v).1 at) (all_keep (map judged vs) (at + length ((judged v).0.1 at))) h (ap (λ (bytes : List ℕ). all_keep (map judged vs) (at + length bytes)) (judged_text at v ∙ sym e) ∙ m)

  members_pass : (ts : List WireType) (vs : List Value) (at : ℕ) (bytes : List ℕ) → Members S ts vs at bytes → (all_keep (map judged vs) at ≡ true) × All Shallow vs × (length ts ≡ length vs)
  members_pass [] [] at bytes h = (refl, All-nil Shallow, refl)
  members_pass [] (v ∷ vs) at bytes h = absurd h
  members_pass (t ∷ ts) [] at bytes h = absurd h
  members_pass (t ∷ ts) (v ∷ vs) at bytes h =
      let one = inside t at v h.0 h.3 in
      let others = members_pass ts vs (at + length h.0) h.1 h.4 in
      (keeps_on at v vs h.0 one.text one.tested others.0, All-cons Shallow v vs one.deep others.1, omega (arith, others.2))

  same_text : (t : WireType) (v : Value) → type_of v ≡ t → is_of_type t (judged v) ≡ true
  same_text t v e = ap (λ (u : WireType). is_same (type_text u) (type_text t)) (judged_type v ∙ e) ∙ is_same-refl (type_text t)

  record Listed (t : WireType) (vs : List Value) (at : ℕ) (bytes : List ℕ) : Type 0 where
    types : list_all (is_of_type t) (map judged vs) ≡ true
    keep : all_keep (map judged vs) at ≡ true
    shallow : All Shallow vs
    text : bytes ≡ spellings Little at vs

  elements_pass : (t : WireType) (vs : List Value) (at : ℕ) (bytes : List ℕ) → Elements S t vs at bytes → Listed t vs at bytes
  elements_pass t [] at bytes h = record { types = refl; keep = refl; shallow = All-nil Shallow; text = h }
  elements_pass t (v ∷ vs) at bytes h =
      let first : List ℕ = h.0 in
      let one = inside t at v first h.3 in
      let others = elements_pass t vs (at + length first) h.1 h.4 in
      record {
        types = both (is_of_type t (judged v)) (list_all (is_of_type t) (map judged vs)) (same_text t v one.kind) others.types;
        keep = keeps_on at v vs first one.text one.tested others.keep;
        shallow = All-cons Shallow v vs one.deep others.shallow;
        text = h.2 ∙ (ap (λ (rest : List ℕ). first ++ rest) others.text ∙ ap (λ (f : List ℕ). f ++ spellings Little (at + length f) vs) one.text);
      }

  element_kinds : (t : WireType) (vs : List Value) (at : ℕ) (bytes : List ℕ) → Elements S t vs at bytes → All (λ v. type_of v ≡ t) vs
  element_kinds t [] at bytes h = All-nil (λ v. type_of v ≡ t)
  element_kinds t (v ∷ vs) at bytes h = All-cons (λ x. type_of x ≡ t) v vs (inside t at v h.0 h.3).kind (element_kinds t vs (at + length h.0) h.1 h.4)

  numbers_pass : (ns : List ℕ) (at : ℕ) → all_keep (map judged (map (λ n. V.Byte n) ns)) at ≡ true → list_all (λ n. nat_lt n (2 ^ 8)) ns ≡ true
  numbers_pass [] at h = refl
  numbers_pass (n ∷ ns) at h =
      let first = (judged (V.Byte n)).1 at in
      let next : ℕ = at + length ((judged (V.Byte n)).0.1 at) in
      let rest = all_keep (map judged (map (λ m. V.Byte m) ns)) next in
      both (nat_lt n (2 ^ 8)) (list_all (λ m. nat_lt m (2 ^ 8)) ns) (sym (ap (λ (j : Judged). j.1 at) (judged_byte n)) ∙ first_of_both first rest h) (numbers_pass ns next (second_of_both first rest h))

  around_numbers : (ns : List ℕ) → All Shallow (map (λ n. V.Byte n) ns) → nesting_step (Value-F.Bytes ns) ≤ k
  around_numbers [] a = least k
  around_numbers (n ∷ ns) a =
      let one : nesting (V.Byte n) + 1 ≤ k = All-head Shallow (V.Byte n) (map (λ m. V.Byte m) ns) a in
      omega (arith, one)

  bytes_pass : (t : WireType) (at : ℕ) (v : Value) (vs : List Value) (body : List ℕ) → t ≡ W.Byte → v ≡ array_of t vs → All (λ x. type_of x ≡ t) vs → Listed t vs (elements_at t at) body → length body ≤ 67_108_864 → Passes k at v
  bytes_pass t at v vs body byte is kinds m small =
      let first : ℕ = elements_at t at in
      let ns : List ℕ = map byte_of vs in
      let whole : map (λ n. V.Byte n) ns ≡ vs = packed_are vs (subst (λ (u : WireType). All (λ x. type_of x ≡ u) vs) byte kinds) in
      let packed : v ≡ V.Bytes ns = is ∙ (ap (λ (u : WireType). array_of u vs) byte ∙ packed_of vs) in
      let r : V.Bytes ns ≡ roll-Value (Value-F.Bytes ns) = search the_lemmas in
      let keep : all_keep (map judged (map (λ n. V.Byte n) ns)) first ≡ true = ap (λ (ws : List Value). all_keep (map judged ws) first) whole ∙ m.keep in
      let same : ns ≡ body = sym (bytes_in_row Little ns first) ∙ (ap (λ (ws : List Value). spellings Little first ws) whole ∙ sym m.text) in
      let short : nat_le (length ns) 67_108_864 ≡ true = no_more (length ns) 67_108_864 (subst (λ (w : List ℕ). length w ≤ 67_108_864) (sym same) small) in
      layer_passes k at v (Value-F.Bytes ns) (packed ∙ r)
      (both (list_all (λ n. nat_lt n (2 ^ 8)) ns) (nat_le (length ns) 67_108_864) (numbers_pass ns first keep) short)
      (around_numbers ns (subst (All Shallow) (sym whole) m.shallow))

  others_pass : (t : WireType) (at : ℕ) (v : Value) (vs : List Value) (body : List ℕ) → (t ≡ W.Byte → ⊥) → v ≡ array_of t vs → Listed t vs (elements_at t at) body → length body ≤ 67_108_864 → Passes k at v
  others_pass t at v vs body none is m small =
      let r : V.Array t vs ≡ roll-Value (Value-F.Array t vs) = search the_lemmas in
      let first : ℕ = elements_at t at in
      let js : List Judged = map judged vs in
      let short : nat_le (length (in_row (map spelled_of js) first)) 67_108_864 ≡ true =
      ap (λ (ss : List Spelled). nat_le (length (in_row ss first)) 67_108_864) (all_spelled vs) ∙ (ap (λ (body : List ℕ). nat_le (length body) 67_108_864) (sym m.text) ∙ no_more (length body) 67_108_864 small) in
      layer_passes k at v (Value-F.Array t vs) (is ∙ (of_others t vs none ∙ r))
      (both (not (is_byte t)) (keeps_array t js first) (other_kind t none)
      (both (list_all (is_of_type t) js) (nat_le (length (in_row (map spelled_of js) first)) 67_108_864 && all_keep js first) m.types (both (nat_le (length (in_row (map spelled_of js) first)) 67_108_864) (all_keep js first) short m.keep)))
      (around_all vs m.shallow)

  array_passes : (t : WireType) (at : ℕ) (v : Value) (bytes : List ℕ) → Row S Little (WireType-F.Array t) at v bytes → Passes k at v
  array_passes t at v bytes h = by_kind (byte_or_not t)
    where
      by_kind : (t ≡ W.Byte) ⊎ (t ≡ W.Byte → ⊥) → Passes k at v
      by_kind (inl byte) = bytes_pass t at v h.2.0 h.2.1 byte h.2.2 (element_kinds t h.2.0 (elements_at t at) h.2.1 h.2.5) (elements_pass t h.2.0 (elements_at t at) h.2.1 h.2.5) h.2.3
      by_kind (inr none) = others_pass t at v h.2.0 h.2.1 none h.2.2 (elements_pass t h.2.0 (elements_at t at) h.2.1 h.2.5) h.2.3

  some_judged : (ts : List WireType) (vs : List Value) → 0 < length ts → length ts ≡ length vs → not (is_none (map judged vs)) ≡ true
  some_judged ts [] l e = absurd (omega arith)
  some_judged ts (v ∷ vs) l e = refl

  struct_passes : (ts : List WireType) (at : ℕ) (v : Value) (bytes : List ℕ) → Row S Little (WireType-F.Struct ts) at v bytes → Passes k at v
  struct_passes ts at v bytes h =
      let b = h.2 in
      let vs : List Value = b.0 in
      let r : V.Struct vs ≡ roll-Value (Value-F.Struct vs) = search the_lemmas in
      let m = members_pass ts vs (at + gap 8 at) h.0 b.3 in
      layer_passes k at v (Value-F.Struct vs) (b.1 ∙ r) (both (not (is_none (map judged vs))) (all_keep (map judged vs) (at + gap 8 at)) (some_judged ts vs b.2 m.2) m.0) (around_all vs m.1)

  entry_passes : (t u : WireType) (at : ℕ) (v : Value) (bytes : List ℕ) → Row S Little (WireType-F.DictEntry t u) at v bytes → Passes k at v
  entry_passes t u at v bytes h =
      let b = h.2 in
      let r : V.DictEntry b.0 b.1 ≡ roll-Value (Value-F.DictEntry b.0 b.1) = search the_lemmas in
      let m = members_pass (t ∷ u ∷ []) (b.0 ∷ b.1 ∷ []) (at + gap 8 at) h.0 b.3 in
      let first : nesting b.0 + 1 ≤ k = All-head Shallow b.0 (b.1 ∷ []) m.1 in
      let second : nesting b.1 + 1 ≤ k = All-head Shallow b.1 [] (All-tail Shallow b.0 (b.1 ∷ []) m.1) in
      layer_passes k at v (Value-F.DictEntry b.0 b.1) (b.2 ∙ r) m.0 (omega arith)

  inner_variant : (at : ℕ) (v : Value) (bytes : List ℕ) → Row S Little WireType-F.Variant at v bytes → Passes k at v
  inner_variant at v bytes h =
      let t : WireType = h.0 in
      let x : Value = h.1 in
      let r : V.Variant x ≡ roll-Value (Value-F.Variant x) = search the_lemmas in
      let next : ℕ = at + (1 + length (type_text t) + 1) in
      let one = inside t next x h.2 h.6 in
      let test : WireType → Bool = λ u. is_variant_type u && (judged x).1 (at + (1 + length (type_text u) + 1)) in
      let kind : (judged x).0.0 ≡ t = judged_type x ∙ one.kind in
      let passes : test t ≡ true = both (is_variant_type t) ((judged x).1 next) (variant_passes t h.4) one.tested in
      layer_passes k at v (Value-F.Variant x) (h.3 ∙ r) (ap test kind ∙ passes) one.deep

  row_passes : (g : WireType-F WireType) (at : ℕ) (v : Value) (bytes : List ℕ) → Row S Little g at v bytes → Passes k at v
  row_passes WireType-F.Byte at v bytes h =
      let r : V.Byte h.0 ≡ roll-Value (Value-F.Byte h.0) = search the_lemmas in
      layer_passes k at v (Value-F.Byte h.0) (h.1 ∙ r) (above h.0 256 h.2) (least k)
  row_passes WireType-F.Bool at v bytes h =
      let b = h.2 in
      let r : V.Bool b.0 ≡ roll-Value (Value-F.Bool b.0) = search the_lemmas in
      layer_passes k at v (Value-F.Bool b.0) (b.1 ∙ r) refl (least k)
  row_passes WireType-F.I16 at v bytes h =
      let b = h.2 in
      let z : ℤ = cast_signed w16 b.0 in
      let r : V.I16 z ≡ roll-Value (Value-F.I16 z) = search the_lemmas in
      layer_passes k at v (Value-F.I16 z) (b.1 ∙ r) (within_16 z (read_sfits w16 b.0)) (least k)
  row_passes WireType-F.U16 at v bytes h =
      let b = h.2 in
      let r : V.U16 b.0 ≡ roll-Value (Value-F.U16 b.0) = search the_lemmas in
      layer_passes k at v (Value-F.U16 b.0) (b.1 ∙ r) (above b.0 (2 ^ 16) b.2) (least k)
  row_passes WireType-F.I32 at v bytes h =
      let b = h.2 in
      let z : ℤ = cast_signed w32 b.0 in
      let r : V.I32 z ≡ roll-Value (Value-F.I32 z) = search the_lemmas in
      layer_passes k at v (Value-F.I32 z) (b.1 ∙ r) (within_32 z (read_sfits w32 b.0)) (least k)
  row_passes WireType-F.U32 at v bytes h =
      let b = h.2 in
      let r : V.U32 b.0 ≡ roll-Value (Value-F.U32 b.0) = search the_lemmas in
      layer_passes k at v (Value-F.U32 b.0) (b.1 ∙ r) (above b.0 (2 ^ 32) b.2) (least k)
  row_passes WireType-F.I64 at v bytes h =
      let b = h.2 in
      let z : ℤ = cast_signed w64 b.0 in
      let r : V.I64 z ≡ roll-Value (Value-F.I64 z) = search the_lemmas in
      layer_passes k at v (Value-F.I64 z) (b.1 ∙ r) (within_64 z (read_sfits w64 b.0)) (least k)
  row_passes WireType-F.U64 at v bytes h =
      let b = h.2 in
      let r : V.U64 b.0 ≡ roll-Value (Value-F.U64 b.0) = search the_lemmas in
      layer_passes k at v (Value-F.U64 b.0) (b.1 ∙ r) (above b.0 (2 ^ 64) b.2) (least k)
  row_passes WireType-F.Double at v bytes h =
      let b = h.2 in
      let r : V.Double b.0 ≡ roll-Value (Value-F.Double b.0) = search the_lemmas in
      layer_passes k at v (Value-F.Double b.0) (b.1 ∙ r) (above b.0 (2 ^ 64) b.2) (least k)
  row_passes WireType-F.Handle at v bytes h =
      let b = h.2 in
      let r : V.Handle b.0 ≡ roll-Value (Value-F.Handle b.0) = search the_lemmas in
      layer_passes k at v (Value-F.Handle b.0) (b.1 ∙ r) (above b.0 (2 ^ 32) b.2) (least k)
  row_passes WireType-F.Str at v bytes h =
      let b = h.2 in
      let r : V.Str b.0 ≡ roll-Value (Value-F.Str b.0) = search the_lemmas in
      layer_passes k at v (Value-F.Str b.0) (b.1 ∙ r) (text_passes b.0 b.2 b.3) (least k)
  row_passes WireType-F.ObjectPath at v bytes h =
      let b = h.2 in
      let r : V.ObjectPath b.0 ≡ roll-Value (Value-F.ObjectPath b.0) = search the_lemmas in
      layer_passes k at v (Value-F.ObjectPath b.0) (b.1 ∙ r) (both (is_text_value b.0) (is_path b.0) (text_passes b.0 b.2.0 b.3) b.2.1) (least k)
  row_passes WireType-F.Signature at v bytes h =
      let r : V.Signature h.0 ≡ roll-Value (Value-F.Signature h.0) = search the_lemmas in
      let s : IsSignature h.3.0 h.0 = h.3.1 in
      let short : length h.0 < 2 ^ 32 = omega (arith, s.2) in
      layer_passes k at v (Value-F.Signature h.0) (h.1 ∙ r) (both (is_text_value h.0) (is_signature h.0) (text_passes h.0 h.2 short) (signature_passes h.0 h.3)) (least k)
  row_passes WireType-F.Variant at v bytes h = inner_variant at v bytes h
  row_passes (WireType-F.Array t) at v bytes h = array_passes t at v bytes h
  row_passes (WireType-F.Struct ts) at v bytes h = struct_passes ts at v bytes h
  row_passes (WireType-F.DictEntry t u) at v bytes h = entry_passes t u at v bytes h

spells_pass : (n : ℕ) (t : WireType) (at : ℕ) (v : Value) (bytes : List ℕ) → SpellsWithin n Little t at v bytes → Passes n at v
unfolding SpellsWithin
spells_pass zero t at v bytes h = row_passes NoneInside 0 (λ t at v bytes s. absurd s) (out-WireType t) at v bytes h
spells_pass (suc n) t at v bytes h =
    row_passes (SpellsWithin n Little) (suc n)
    (λ u a x text s.
    let one = spells_pass n u a x text s in
    let same = spells_same n Little u a x text s in
    record { tested = one.tested; deep = omega (arith, one.deep); text = same.0; kind = sym (spelled_kind Little x) ∙ same.1 })
    (out-WireType t) at v bytes h

-- a datum passes the test
pub datum-passes : (datum : Value) (bytes : List ℕ) → IsDatum (V.Variant datum) bytes → is_data datum ≡ true
datum-passes datum bytes h =
    let p = spells_pass 64 W.Variant 0 (V.Variant datum) bytes h.spelled in
    let none : holds_handle datum ≡ false = sym (variant_holds datum) ∙ h.no_handle in
    both (is_spelled datum) (not (holds_handle datum)) (both ((judged (V.Variant datum)).1 0) (nat_le (nesting (V.Variant datum)) 64) p.tested (no_more (nesting (V.Variant datum)) 64 p.deep)) (ap not none)

-- ---- how many bytes it has

spelled-counts : (datum : Value) (b : Bool) → is_spelled datum ≡ b → (bytes : List ℕ) → b ≡ true → spelling Little 0 (V.Variant datum) ≡ bytes → cond b (length (spelling Little 0 (V.Variant datum))) 0 ≡ length bytes
spelled-counts datum true e bytes h s = ap (λ (x : List ℕ). length x) s
spelled-counts datum false e bytes h s = cc

pub data-counted : (datum : Value) (bytes : List ℕ) → Spells Little 0 W.Variant (V.Variant datum) bytes → data_bytes datum ≡ length bytes
data-counted datum bytes h =
    let p = spells_pass 64 W.Variant 0 (V.Variant datum) bytes h in
    let passes : is_spelled datum ≡ true = both ((judged (V.Variant datum)).1 0) (nat_le (nesting (V.Variant datum)) 64) p.tested (no_more (nesting (V.Variant datum)) 64 p.deep) in
    spelled-counts datum (is_spelled datum) refl bytes passes (sym (spells_same 64 Little W.Variant 0 (V.Variant datum) bytes h).0)

pub passed-spells : (datum : Value) → is_spelled datum ≡ true → Spells Little 0 W.Variant (V.Variant datum) (spelling Little 0 (V.Variant datum))
passed-spells datum h =
    let passes = (judged (V.Variant datum)).1 0 in
    let deep = nat_le (nesting (V.Variant datum)) 64 in
    subst (λ (t : WireType). SpellsWithin 64 Little t 0 (V.Variant datum) (spelling Little 0 (V.Variant datum))) (type_variant datum)
    (kept-spells 64 0 (V.Variant datum) (at_most (nesting (V.Variant datum)) 64 (second_of_both passes deep h)) (first_of_both passes deep h))

pub data-free : (datum : Value) → ((bytes : List ℕ) → Spells Little 0 W.Variant (V.Variant datum) bytes → ⊥) → data_bytes datum ≡ 0
data-free datum none = by_test (is_spelled datum) refl
  where
    by_test : (b : Bool) → is_spelled datum ≡ b → cond b (length (spelling Little 0 (V.Variant datum))) 0 ≡ 0
    by_test true e = absurd (none (spelling Little 0 (V.Variant datum)) (passed-spells datum e))
    by_test false e = refl

-- ---- entries and their records

pub entry-has : (e : StoredEntry) → is_valid_entry e ≡ true → HasDatum (record_of e) (V.Variant e.datum)
entry-has e h =
    let rest : (is_data e.datum && can_be_told e) ≡ true = second_of_both (has_entry_texts e) (is_data e.datum && can_be_told e) h in
    record {
      is = data-spelled e.datum (first_of_both (is_data e.datum) (can_be_told e) rest);
      told = at_most (changed_length (record_of e) (V.Variant e.datum)) message_limit (second_of_both (is_data e.datum) (can_be_told e) rest);
    }

pub entry-valid : (e : StoredEntry) → has_entry_texts e ≡ true → HasDatum (record_of e) (V.Variant e.datum) → is_valid_entry e ≡ true
entry-valid e t h =
    both (has_entry_texts e) (is_data e.datum && can_be_told e) t
    (both (is_data e.datum) (can_be_told e) (datum-passes e.datum (spelling Little 0 (V.Variant e.datum)) h.is) (no_more (changed_length (record_of e) (V.Variant e.datum)) message_limit h.told))

pub record-again : (r : EntryRecord) (datum : Value) → HasDatum r (V.Variant datum) → record_of (entry_of_record r datum) ≡ r
record-again r datum h =
    let same : r.datum ≡ spelling Little 0 (V.Variant datum) = (spells_same 64 Little W.Variant 0 (V.Variant datum) r.datum h.is.spelled).0 in
    λ i. record { table = r.table; id = r.id; datum = sym same i; rows = r.rows }
