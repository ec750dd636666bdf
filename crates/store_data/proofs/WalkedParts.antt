-- Walks past values that hold others.
use Rattle.std.proofs.Common.{◌≡◌, ℕ, zero, suc, ◌+◌, ◌%◌, ◌<◌, ◌≤◌, ◌^◌, ◌↔◌, nat_le, nat_lt, List, [], ◌∷◌, ◌++◌, length, map, drop, get_or, Bool, true, false, not, ◌&&◌, Option, Some, refl, sym, ap, subst, ◌∙◌, arith}
use Rattle.std.specs.Prelude.{All, IsTrue}
use Rattle.std.specs.Int.{w8, w32, to_le_bytes}
use Rattle.std.specs.List.{list_all}
use Rattle.std.proofs.lemmas.Bool.{true≢false}
use Rattle.std.proofs.lemmas.Bool.Decides.{nat_tests}
use Rattle.std.proofs.Math.Numerals.{add-one}
use Rattle.std.proofs.Math.Seq.{drop-cons}
use Rattle.std.proofs.lemmas.List.{drop_all, length-append}
use Rattle.std.proofs.lemmas.List.Elements.{All-get_or, All-head, All-tail, All-weaker}
use Rattle.dbus_types.specs.declared.types.Endian.TheVariants.{Little}
use Rattle.dbus_types.specs.declared.types.WireType.{WireType, out-WireType}
use Rattle.dbus_types.specs.declared.types.WireType.TheOpen.{WireType-F}
use Rattle.dbus_types.specs.declared.types.WireType.TheVariants as W
use Rattle.dbus_types.specs.declared.types.Value.{Value, out-Value, roll-Value, the_lemmas}
use Rattle.dbus_types.specs.declared.types.Value.TheOpen.{Value-F}
use Rattle.dbus_types.specs.declared.types.Value.TheVariants as V
use Rattle.dbus_values.specs.Spells.{gap, number}
use Rattle.dbus_values.specs.Spelling.{Spelled, aligned, bytes_body, in_row, spelled, spelled_length, spelled_lengths, spelling, variant_body}
use Rattle.dbus_types.specs.Types.{alignment, alignment_of, type_text, IsValidType, IsVariantType}
use Rattle.dbus_values.specs.Values.{KeepsWithin, LeafKeeps, ValueKeeps, type_of}
use Rattle.dbus_values.proofs.OneSpelling.{roll_variant}
use Rattle.dbus_values.proofs.SpelledType.{spelled_kind}
use Rattle.portal_model.specs.Data.{Judged, all_keep, elements_at, is_byte, is_of_type, is_valid_type, is_variant_type, judge, judged, keeps_array, spelled_of}
use Rattle.portal_model.specs.State.{is_none}
use Rattle.portal_base.specs.Names.{is_same}
use Rattle.portal_model.proofs.DataLaws.{above, all_spelled, judged_text, judged_type, other_kind, variant_passes}
use Rattle.portal_model.proofs.DocumentChanges.{both}
use Rattle.portal_model.proofs.ListLookups.{is_same-refl}
use Rattle.portal_model.proofs.SpelledEnds.{array-end, behind, entry-end, number_32, struct-end, values-more}
use Rattle.store_data.specs.declared.walk.Walk.{Walk}
use Rattle.store_data.specs.Walks.{Keeps, Passes, Stands, ahead_of_elements}
use Rattle.store_data.proofs.WalkedLeaves.{assoc, carried, judged-so}

rolled : (v : Value) (f : Value-F Value) → out-Value v ≡ f → v ≡ roll-Value f
rolled v f e = sym (back v) ∙ ap roll-Value e
  where
    back : (w : Value) → roll-Value (out-Value w) ≡ w
    back w = search the_lemmas

rolls_variant : (x : Value) → roll-Value (Value-F.Variant x) ≡ V.Variant x
rolls_variant x = search the_lemmas

rolls_array : (t : WireType) (vs : List Value) → roll-Value (Value-F.Array t vs) ≡ V.Array t vs
rolls_array t vs = search the_lemmas

rolls_bytes : (bytes : List ℕ) → roll-Value (Value-F.Bytes bytes) ≡ V.Bytes bytes
rolls_bytes bytes = search the_lemmas

rolls_struct : (vs : List Value) → roll-Value (Value-F.Struct vs) ≡ V.Struct vs
rolls_struct vs = search the_lemmas

rolls_entry : (k x : Value) → roll-Value (Value-F.DictEntry k x) ≡ V.DictEntry k x
rolls_entry k x = search the_lemmas

-- ---- what those inside keep

abbrev Inside : (Value → Type 0) → Value-F Value → Type 0
Inside P (Value-F.Variant x) = IsVariantType (type_of x) × P x
Inside P (Value-F.Bytes bytes) = All (λ n. P (V.Byte n)) bytes
Inside P (Value-F.Array t vs) = (t ≡ W.Byte → ⊥) × All (λ v. (type_of v ≡ t) × P v) vs
Inside P (Value-F.Struct vs) = All P vs
Inside P (Value-F.DictEntry k x) = P k × P x
Inside P leaf = Unit {0}

inside : (P Q : Value → Type 0) → ((v : Value) → P v → Q v) → (f : Value-F Value) → ValueKeeps P f → Inside Q f
inside P Q more (Value-F.Variant x) h = (h.0, more x h.1)
inside P Q more (Value-F.Bytes bytes) h = All-weaker (λ n. P (V.Byte n)) (λ n. Q (V.Byte n)) (λ n k. more (V.Byte n) k) bytes h
inside P Q more (Value-F.Array t vs) h = (h.0, All-weaker (λ v. (type_of v ≡ t) × P v) (λ v. (type_of v ≡ t) × Q v) (λ v k. (k.0, more v k.1)) vs h.1)
inside P Q more (Value-F.Struct vs) h = All-weaker P Q more vs h
inside P Q more (Value-F.DictEntry k x) h = (more k h.0, more x h.1)
inside P Q more f h = tt

pub kept-inside : (n : ℕ) (v : Value) → KeepsWithin n v → Inside Keeps (out-Value v)
unfolding KeepsWithin
kept-inside zero v h = inside (λ x. ⊥) Keeps (λ x k. absurd k) (out-Value v) h
kept-inside (suc n) v h = inside (KeepsWithin n) Keeps (λ x k. (n, k)) (out-Value v) h

parts : (v u : Value) (f : Value-F Value) → v ≡ u → out-Value u ≡ f → Keeps v → Inside Keeps f
parts v u f is e h = subst (Inside Keeps) (ap out-Value is ∙ e) (kept-inside h.0 v h.1)

out_variant : (x : Value) → out-Value (V.Variant x) ≡ Value-F.Variant x
out_variant x = search the_lemmas

out_array : (t : WireType) (vs : List Value) → out-Value (V.Array t vs) ≡ Value-F.Array t vs
out_array t vs = search the_lemmas

out_bytes : (bytes : List ℕ) → out-Value (V.Bytes bytes) ≡ Value-F.Bytes bytes
out_bytes bytes = search the_lemmas

out_byte : (n : ℕ) → out-Value (V.Byte n) ≡ Value-F.Byte n
out_byte n = search the_lemmas

out_struct : (vs : List Value) → out-Value (V.Struct vs) ≡ Value-F.Struct vs
out_struct vs = search the_lemmas

out_entry : (k x : Value) → out-Value (V.DictEntry k x) ≡ Value-F.DictEntry k x
out_entry k x = search the_lemmas

pub variant-parts : (v x : Value) → v ≡ V.Variant x → Keeps v → IsVariantType (type_of x) × Keeps x
variant-parts v x is h = parts v (V.Variant x) (Value-F.Variant x) is (out_variant x) h

pub array-parts : (v : Value) (t : WireType) (vs : List Value) → v ≡ V.Array t vs → Keeps v → All (λ x. (type_of x ≡ t) × Keeps x) vs
array-parts v t vs is h = (parts v (V.Array t vs) (Value-F.Array t vs) is (out_array t vs) h).1

array-kind : (v : Value) (t : WireType) (vs : List Value) → v ≡ V.Array t vs → Keeps v → t ≡ W.Byte → ⊥
array-kind v t vs is h = (parts v (V.Array t vs) (Value-F.Array t vs) is (out_array t vs) h).0

bytes-parts : (v : Value) (bytes : List ℕ) → v ≡ V.Bytes bytes → Keeps v → All (λ n. Keeps (V.Byte n)) bytes
bytes-parts v bytes is h = parts v (V.Bytes bytes) (Value-F.Bytes bytes) is (out_bytes bytes) h

pub items-keep : (t : WireType) (vs : List Value) → All (λ x. (type_of x ≡ t) × Keeps x) vs → All Keeps vs
items-keep t vs h = All-weaker (λ x. (type_of x ≡ t) × Keeps x) Keeps (λ x k. k.1) vs h

pub struct-parts : (v : Value) (vs : List Value) → v ≡ V.Struct vs → Keeps v → All Keeps vs
struct-parts v vs is h = parts v (V.Struct vs) (Value-F.Struct vs) is (out_struct vs) h

pub entry-parts : (v k x : Value) → v ≡ V.DictEntry k x → Keeps v → Keeps k × Keeps x
entry-parts v k x is h = parts v (V.DictEntry k x) (Value-F.DictEntry k x) is (out_entry k x) h

-- ---- a value that holds no other

leaf-inside : (P : Value → Type 0) (v : Value) (f : Value-F Value) → out-Value v ≡ f → ((x : Value) → v ≡ V.Variant x → ⊥) → ((bytes : List ℕ) → v ≡ V.Bytes bytes → ⊥) → ((t : WireType) (vs : List Value) → v ≡ V.Array t vs → ⊥) → ((vs : List Value) → v ≡ V.Struct vs → ⊥) →
    ((k x : Value) → v ≡ V.DictEntry k x → ⊥) → ValueKeeps P f → LeafKeeps f
leaf-inside P v (Value-F.Variant x) e a y b c d h = absurd (a x (rolled v (Value-F.Variant x) e ∙ rolls_variant x))
leaf-inside P v (Value-F.Bytes bytes) e a y b c d h = absurd (y bytes (rolled v (Value-F.Bytes bytes) e ∙ rolls_bytes bytes))
leaf-inside P v (Value-F.Array t vs) e a y b c d h = absurd (b t vs (rolled v (Value-F.Array t vs) e ∙ rolls_array t vs))
leaf-inside P v (Value-F.Struct vs) e a y b c d h = absurd (c vs (rolled v (Value-F.Struct vs) e ∙ rolls_struct vs))
leaf-inside P v (Value-F.DictEntry k x) e a y b c d h = absurd (d k x (rolled v (Value-F.DictEntry k x) e ∙ rolls_entry k x))
leaf-inside P v f e a y b c d h = h

leaf-within : (n : ℕ) (v : Value) → ((x : Value) → v ≡ V.Variant x → ⊥) → ((bytes : List ℕ) → v ≡ V.Bytes bytes → ⊥) → ((t : WireType) (vs : List Value) → v ≡ V.Array t vs → ⊥) → ((vs : List Value) → v ≡ V.Struct vs → ⊥) →
    ((k x : Value) → v ≡ V.DictEntry k x → ⊥) → KeepsWithin n v → LeafKeeps (out-Value v)
unfolding KeepsWithin
leaf-within zero v a y b c d h = leaf-inside (λ x. ⊥) v (out-Value v) refl a y b c d h
leaf-within (suc n) v a y b c d h = leaf-inside (KeepsWithin n) v (out-Value v) refl a y b c d h

pub leaf-keeps : (v : Value) → ((x : Value) → v ≡ V.Variant x → ⊥) → ((bytes : List ℕ) → v ≡ V.Bytes bytes → ⊥) → ((t : WireType) (vs : List Value) → v ≡ V.Array t vs → ⊥) → ((vs : List Value) → v ≡ V.Struct vs → ⊥) →
    ((k x : Value) → v ≡ V.DictEntry k x → ⊥) → Keeps v → LeafKeeps (out-Value v)
leaf-keeps v a y b c d h = leaf-within h.0 v a y b c d h.1

-- ---- the judgement of a layer

as-far : (passed at count next whole : ℕ) → (at + count) + next ≡ at + whole → (passed + count) + next ≡ passed + whole
as-far passed at count next whole e = omega arith

-- what passes a part, and comes to the end of the whole, passes the whole
pub whole-passes : (passed at count next : ℕ) (keeps : Bool) (v : Value) (r : Option Walk) → keeps ≡ (judged v).1 at → (at + count) + next ≡ at + spelled_length at v
    → Passes keeps ((passed + count) + next) ((at + count) + next) r → Passes ((judged v).1 at) (passed + spelled_length at v) (at + spelled_length at v) r
whole-passes passed at count next keeps v r e long h =
    let p : (passed + count) + next ≡ passed + spelled_length at v = as-far passed at count next (spelled_length at v) long in
    carried keeps ((judged v).1 at) ((passed + count) + next) (passed + spelled_length at v) ((at + count) + next) (at + spelled_length at v) r e p long h

-- a variant's type, and behind its signature the value
judged_variant : (x : Value) → judged (V.Variant x) ≡ judge (Value-F.Variant (judged x))
judged_variant x = search the_lemmas

abbrev pub signature_bytes : Value → ℕ
signature_bytes x = 1 + length (type_text (type_of x)) + 1

pub variant-test : (at : ℕ) (x : Value) → (judged (V.Variant x)).1 at ≡ (is_variant_type (type_of x) && (judged x).1 (at + signature_bytes x))
variant-test at x =
    ap (λ (j : Judged). j.1 at) (judged_variant x)
    ∙ ap (λ (t : WireType). is_variant_type t && (judged x).1 (at + (1 + length (type_text t) + 1))) (judged_type x)

variant-length : (at : ℕ) (x : Value) → (at + signature_bytes x) + spelled_length (at + signature_bytes x) x ≡ at + spelled_length at (V.Variant x)
variant-length at x =
    let text : List ℕ = type_text (spelled Little x).0 in
    let from : ℕ = at + (1 + length text + 1) in
    let same : from ≡ at + signature_bytes x = ap (λ (t : WireType). at + (1 + length (type_text t) + 1)) (spelled_kind Little x) in
    let whole : at + spelled_length at (V.Variant x) ≡ at + length (variant_body text (spelled Little x).1 at) = ap (λ (s : Spelled). at + length (s.1 at)) (roll_variant Little x) in
    let long : at + length (variant_body text (spelled Little x).1 at) ≡ from + spelled_length from x = omega (
      arith,
      length-append (to_le_bytes w8 (length text)) (text ++ 0 ∷ spelling Little from x),
      length-append text (0 ∷ spelling Little from x),
    ) in
    sym (whole ∙ (long ∙ ap (λ (n : ℕ). n + spelled_length n x) same))

pub first_fails : (a b : Bool) → a ≡ false → (a && b) ≡ false
first_fails true b h = cc
first_fails false b h = refl

first_holds : (a b : Bool) → a ≡ true → b ≡ (a && b)
first_holds true b h = refl
first_holds false b h = cc

pub second_fails : (a b : Bool) → b ≡ false → (a && b) ≡ false
second_fails true b h = h
second_fails false b h = refl

second_holds : (a b : Bool) → b ≡ true → a ≡ (a && b)
second_holds true b h = sym h
second_holds false b h = refl

pub variant-stops : (at : ℕ) (v x : Value) → v ≡ V.Variant x → is_variant_type (type_of x) ≡ false → (judged v).1 at ≡ false
variant-stops at v x is h =
    ap (λ (y : Value). (judged y).1 at) is ∙ (variant-test at x ∙ first_fails (is_variant_type (type_of x)) ((judged x).1 (at + signature_bytes x)) h)

pub variant-passes : (passed at : ℕ) (v x : Value) (r : Option Walk) → v ≡ V.Variant x → is_variant_type (type_of x) ≡ true
    → Passes ((judged x).1 (at + signature_bytes x)) ((passed + signature_bytes x) + spelled_length (at + signature_bytes x) x) ((at + signature_bytes x) + spelled_length (at + signature_bytes x) x) r
    → Passes ((judged v).1 at) (passed + spelled_length at v) (at + spelled_length at v) r
variant-passes passed at v x r is kind h =
    let next : ℕ = at + signature_bytes x in
    let test : (judged x).1 next ≡ (judged v).1 at = first_holds (is_variant_type (type_of x)) ((judged x).1 next) kind ∙ (sym (variant-test at x) ∙ ap (λ (y : Value). (judged y).1 at) (sym is)) in
    whole-passes passed at (signature_bytes x) (spelled_length next x) ((judged x).1 next) v r test (variant-length at x ∙ ap (λ (y : Value). at + spelled_length at y) (sym is)) h

too_long : (n : ℕ) → 255 < n → nat_le n 255 ≡ false
too_long n h = grind (arith, nat_tests)

pub too-long-kind : (x : Value) → 255 < length (type_text (type_of x)) → is_variant_type (type_of x) ≡ false
too-long-kind x h = second_fails (is_valid_type (type_of x)) (nat_le (length (type_text (type_of x))) 255) (too_long (length (type_text (type_of x))) h)

pub kind-passes : (x : Value) → IsValidType (type_of x) → length (type_text (type_of x)) ≤ 255 → is_variant_type (type_of x) ≡ true
kind-passes x h l = variant_passes (type_of x) (h, l)

-- ---- arrays

pub long-body : (n : ℕ) → 67_108_864 < n → nat_le n 67_108_864 ≡ false
long-body n h = grind (arith, nat_tests)

pub short-body : (n : ℕ) → n ≤ 67_108_864 → nat_le n 67_108_864 ≡ true
short-body n h = grind (arith, nat_tests)

judged_array : (t : WireType) (vs : List Value) → judged (V.Array t vs) ≡ judge (Value-F.Array t (map judged vs))
judged_array t vs = search the_lemmas

same-kind : (t : WireType) (v : Value) → type_of v ≡ t → is_of_type t (judged v) ≡ true
same-kind t v e = ap (λ (u : WireType). is_same (type_text u) (type_text t)) (judged_type v ∙ e) ∙ is_same-refl (type_text t)

same-kinds : (t : WireType) (vs : List Value) → All (λ x. (type_of x ≡ t) × Keeps x) vs → list_all (is_of_type t) (map judged vs) ≡ true
same-kinds t [] h = refl
same-kinds t (v ∷ vs) h =
    both (is_of_type t (judged v)) (list_all (is_of_type t) (map judged vs)) (same-kind t v (All-head (λ x. (type_of x ≡ t) × Keeps x) v vs h).0)
    (same-kinds t vs (All-tail (λ x. (type_of x ≡ t) × Keeps x) v vs h))

array-test : (at : ℕ) (v : Value) (t : WireType) (vs : List Value) → v ≡ V.Array t vs → (t ≡ W.Byte → ⊥) → All (λ x. (type_of x ≡ t) × Keeps x) vs
    → (nat_le (spelled_lengths (elements_at t at) vs) 67_108_864 && all_keep (map judged vs) (elements_at t at)) ≡ (judged v).1 at
array-test at v t vs is none h =
    let first : ℕ = elements_at t at in
    let js : List Judged = map judged vs in
    let short : List Spelled → Bool = λ ss. nat_le (length (in_row ss first)) 67_108_864 && all_keep js first in
    ap short (sym (all_spelled vs))
    ∙ (first_holds (list_all (is_of_type t) js) (short (map spelled_of js)) (same-kinds t vs h)
    ∙ first_holds (not (is_byte t)) (keeps_array t js first) (other_kind t none)
    ∙ (ap (λ (j : Judged). j.1 at) (sym (judged_array t vs)) ∙ ap (λ (y : Value). (judged y).1 at) (sym is)))

far : (at pad g h : ℕ) → g ≡ h → at + ((pad + 4) + g) ≡ ((at + pad) + 4) + h
far at pad g h e = omega arith

at-elements : (t : WireType) (at : ℕ) → at + ahead_of_elements t at ≡ elements_at t at
at-elements t at =
    far at (gap 4 at) (gap (alignment t) (at + (gap 4 at + 4))) (gap (alignment t) ((at + gap 4 at) + 4)) (ap (λ (n : ℕ). gap (alignment t) n) (sym (assoc at (gap 4 at) 4)))

pub array-stops : (at : ℕ) (v : Value) (t : WireType) (vs : List Value) → v ≡ V.Array t vs → Keeps v → all_keep (map judged vs) (at + ahead_of_elements t at) ≡ false → (judged v).1 at ≡ false
array-stops at v t vs is k h =
    let first : ℕ = elements_at t at in
    let broken : all_keep (map judged vs) first ≡ false = ap (all_keep (map judged vs)) (sym (at-elements t at)) ∙ h in
    sym (array-test at v t vs is (array-kind v t vs is k) (array-parts v t vs is k)) ∙ second_fails (nat_le (spelled_lengths first vs) 67_108_864) (all_keep (map judged vs) first) broken

pub array-passes : (passed at : ℕ) (v : Value) (t : WireType) (vs : List Value) (r : Option Walk) → v ≡ V.Array t vs → Keeps v → all_keep (map judged vs) (at + ahead_of_elements t at) ≡ true
    → (let count = spelled_lengths (at + ahead_of_elements t at) vs in Passes (nat_le count 67_108_864) ((passed + ahead_of_elements t at) + count) ((at + ahead_of_elements t at) + count) r)
    → Passes ((judged v).1 at) (passed + spelled_length at v) (at + spelled_length at v) r
array-passes passed at v t vs r is k kept h =
    let ahead : ℕ = ahead_of_elements t at in
    let same : at + ahead ≡ elements_at t at = at-elements t at in
    let count : ℕ = spelled_lengths (at + ahead) vs in
    let moved : count ≡ spelled_lengths (elements_at t at) vs = ap (λ (n : ℕ). spelled_lengths n vs) same in
    let all : all_keep (map judged vs) (elements_at t at) ≡ true = ap (all_keep (map judged vs)) (sym same) ∙ kept in
    let test : nat_le count 67_108_864 ≡ (judged v).1 at =
    ap (λ (n : ℕ). nat_le n 67_108_864) moved
    ∙ (second_holds (nat_le (spelled_lengths (elements_at t at) vs) 67_108_864) (all_keep (map judged vs) (elements_at t at)) all ∙ array-test at v t vs is (array-kind v t vs is k) (array-parts v t vs is k)) in
    let long : (at + ahead) + count ≡ at + spelled_length at v =
    ap (λ (n : ℕ). n + spelled_lengths n vs) same ∙ (array-end at t vs ∙ ap (λ (y : Value). at + spelled_length at y) (sym is)) in
    whole-passes passed at ahead count (nat_le count 67_108_864) v r test long h

-- ---- packed bytes

judged_bytes : (bytes : List ℕ) → judged (V.Bytes bytes) ≡ judge (Value-F.Bytes bytes)
judged_bytes bytes = search the_lemmas

byte-small : (d n : ℕ) → KeepsWithin d (V.Byte n) → n < 2 ^ 8
unfolding KeepsWithin
byte-small zero n h = subst (ValueKeeps (λ x. ⊥)) (out_byte n) h
byte-small (suc d) n h = subst (ValueKeeps (KeepsWithin d)) (out_byte n) h

bytes-fit : (bytes : List ℕ) → All (λ n. Keeps (V.Byte n)) bytes → list_all (λ n. nat_lt n (2 ^ 8)) bytes ≡ true
bytes-fit [] h = refl
bytes-fit (n ∷ ns) h =
    let one : Keeps (V.Byte n) = All-head (λ m. Keeps (V.Byte m)) n ns h in
    both (nat_lt n (2 ^ 8)) (list_all (λ m. nat_lt m (2 ^ 8)) ns) (above n (2 ^ 8) (byte-small one.0 n one.1)) (bytes-fit ns (All-tail (λ m. Keeps (V.Byte m)) n ns h))

bytes-length : (at : ℕ) (bytes : List ℕ) → gap 4 at + (4 + length bytes) ≡ length (aligned 4 (λ start. bytes_body Little bytes) at)
bytes-length at bytes = omega (arith, behind 4 (λ start. bytes_body Little bytes) at, length-append (number Little w32 (length bytes)) bytes, number_32 (length bytes))

pub bytes-so : (passed at count : ℕ) (bytes : List ℕ) (r : Option Walk) → count ≡ length bytes → Passes (nat_le count 67_108_864) (passed + (gap 4 at + (4 + count))) (at + (gap 4 at + (4 + count))) r
    → Passes (nat_le (length bytes) 67_108_864) (passed + (gap 4 at + (4 + length bytes))) (at + (gap 4 at + (4 + length bytes))) r
bytes-so passed at count bytes r e h = subst (λ (n : ℕ). Passes (nat_le n 67_108_864) (passed + (gap 4 at + (4 + n))) (at + (gap 4 at + (4 + n))) r) e h

pub bytes-passes : (passed at : ℕ) (bytes : List ℕ) (v : Value) (r : Option Walk) → v ≡ V.Bytes bytes → Keeps v
    → Passes (nat_le (length bytes) 67_108_864) (passed + (gap 4 at + (4 + length bytes))) (at + (gap 4 at + (4 + length bytes))) r → Passes ((judged v).1 at) (passed + spelled_length at v) (at + spelled_length at v) r
bytes-passes passed at bytes v r is k h =
    judged-so passed at (gap 4 at + (4 + length bytes)) (nat_le (length bytes) 67_108_864) v (V.Bytes bytes) (judge (Value-F.Bytes bytes)) r is (judged_bytes bytes)
    (first_holds (list_all (λ n. nat_lt n (2 ^ 8)) bytes) (nat_le (length bytes) 67_108_864) (bytes-fit bytes (bytes-parts v bytes is k))) (bytes-length at bytes) h

-- ---- structs and dict entries

judged_struct : (vs : List Value) → judged (V.Struct vs) ≡ judge (Value-F.Struct (map judged vs))
judged_struct vs = search the_lemmas

struct-test : (at : ℕ) (v : Value) (vs : List Value) → v ≡ V.Struct vs → (judged v).1 at ≡ (not (is_none (map judged vs)) && all_keep (map judged vs) (at + gap 8 at))
struct-test at v vs is = ap (λ (y : Value). (judged y).1 at) is ∙ ap (λ (j : Judged). j.1 at) (judged_struct vs)

pub struct-stops : (at : ℕ) (v : Value) (vs : List Value) → v ≡ V.Struct vs → vs ≡ [] → (judged v).1 at ≡ false
struct-stops at v vs is none =
    struct-test at v vs is ∙ ap (λ (xs : List Value). not (is_none (map judged xs)) && all_keep (map judged xs) (at + gap 8 at)) none

pub not-empty : (b : Bool) (members vs : List Value) → b ≡ false → IsTrue b ↔ (members ≡ []) → vs ≡ members → vs ≡ [] → ⊥
not-empty b members vs f h e n = let yes : b ≡ true = h.1 (sym e ∙ n) in true≢false (sym yes ∙ f)

some-there : (vs : List Value) → (vs ≡ [] → ⊥) → not (is_none (map judged vs)) ≡ true
some-there [] h = absurd (h refl)
some-there (v ∷ vs) h = refl

pub struct-passes : (passed at : ℕ) (v : Value) (vs : List Value) (r : Option Walk) → v ≡ V.Struct vs → (vs ≡ [] → ⊥)
    → Passes (all_keep (map judged vs) (at + gap 8 at)) ((passed + gap 8 at) + spelled_lengths (at + gap 8 at) vs) ((at + gap 8 at) + spelled_lengths (at + gap 8 at) vs) r
    → Passes ((judged v).1 at) (passed + spelled_length at v) (at + spelled_length at v) r
struct-passes passed at v vs r is some h =
    let start : ℕ = at + gap 8 at in
    let test : all_keep (map judged vs) start ≡ (judged v).1 at = first_holds (not (is_none (map judged vs))) (all_keep (map judged vs) start) (some-there vs some) ∙ sym (struct-test at v vs is) in
    whole-passes passed at (gap 8 at) (spelled_lengths start vs) (all_keep (map judged vs) start) v r test (struct-end at vs ∙ ap (λ (y : Value). at + spelled_length at y) (sym is)) h

judged_entry : (k x : Value) → judged (V.DictEntry k x) ≡ judge (Value-F.DictEntry (judged k) (judged x))
judged_entry k x = search the_lemmas

and_true : (b : Bool) → (b && true) ≡ b
and_true true = refl
and_true false = refl

entry-test : (at : ℕ) (v k x : Value) → v ≡ V.DictEntry k x → (judged v).1 at ≡ ((judged k).1 (at + gap 8 at) && (judged x).1 ((at + gap 8 at) + spelled_length (at + gap 8 at) k))
entry-test at v k x is =
    let start : ℕ = at + gap 8 at in
    ap (λ (y : Value). (judged y).1 at) is
    ∙ (ap (λ (j : Judged). j.1 at) (judged_entry k x)
    ∙ (ap (λ (b : Bool). (judged k).1 start && b) (and_true ((judged x).1 (start + length ((judged k).0.1 start))))
    ∙ ap (λ (bytes : List ℕ). (judged k).1 start && (judged x).1 (start + length bytes)) (judged_text start k)))

pub entry-stops : (at : ℕ) (v k x : Value) → v ≡ V.DictEntry k x → (judged k).1 (at + gap 8 at) ≡ false → (judged v).1 at ≡ false
entry-stops at v k x is h =
    let start : ℕ = at + gap 8 at in
    entry-test at v k x is ∙ first_fails ((judged k).1 start) ((judged x).1 (start + spelled_length start k)) h

shifted : (passed at g key last whole : ℕ) → ((at + g) + key) + last ≡ at + whole → ((passed + g) + key) + last ≡ passed + whole
shifted passed at g key last whole e = omega arith

pub entry-passes : (passed at : ℕ) (v k x : Value) (r : Option Walk) → v ≡ V.DictEntry k x → (judged k).1 (at + gap 8 at) ≡ true
    → (let start = at + gap 8 at in let second = start + spelled_length start k in
    Passes ((judged x).1 second) (((passed + gap 8 at) + spelled_length start k) + spelled_length second x) (second + spelled_length second x) r)
    → Passes ((judged v).1 at) (passed + spelled_length at v) (at + spelled_length at v) r
entry-passes passed at v k x r is kept h =
    let start : ℕ = at + gap 8 at in
    let key : ℕ = spelled_length start k in
    let second : ℕ = start + key in
    let last : ℕ = spelled_length second x in
    let test : (judged x).1 second ≡ (judged v).1 at = first_holds ((judged k).1 start) ((judged x).1 second) kept ∙ sym (entry-test at v k x is) in
    let long : second + last ≡ at + spelled_length at v = entry-end at k x ∙ ap (λ (y : Value). at + spelled_length at y) (sym is) in
    let p : ((passed + gap 8 at) + key) + last ≡ passed + spelled_length at v = shifted passed at (gap 8 at) key last (spelled_length at v) long in
    carried ((judged x).1 second) ((judged v).1 at) (((passed + gap 8 at) + key) + last) (passed + spelled_length at v) (second + last) (at + spelled_length at v) r test p long h

-- ---- one after another

-- the walk stands between those that it has passed and those that are left
pub record OnWay (passed at : ℕ) (all left : List Value) (w : Walk) : Type 0 where
  pub counted : ℕ
  pub place : ℕ
  pub stands : Stands counted place w
  pub bytes : counted + spelled_lengths place left ≡ passed + spelled_lengths at all
  pub offset : place + spelled_lengths place left ≡ at + spelled_lengths at all
  pub keeps : all_keep (map judged left) place ≡ all_keep (map judged all) at

pub at-first : (passed at : ℕ) (all left : List Value) (w : Walk) → left ≡ all → Stands passed at w → OnWay passed at all left w
at-first passed at all left w e h = record {
  counted = passed;
  place = at;
  stands = h;
  bytes = ap (λ (vs : List Value). passed + spelled_lengths at vs) e;
  offset = ap (λ (vs : List Value). at + spelled_lengths at vs) e;
  keeps = ap (λ (vs : List Value). all_keep (map judged vs) at) e;
}

-- the first that is left, and the others
pub next-left : (vs : List Value) (i : ℕ) (v : Value) → i < length vs → v ≡ get_or vs i v → drop i vs ≡ v ∷ drop (i + 1) vs
next-left vs i v l e = rw add-one (drop-cons vs i v l ∙ ap (λ (x : Value). x ∷ drop (suc i) vs) (sym e))

pub none-left : (vs : List Value) (i : ℕ) → length vs ≤ i → drop i vs ≡ []
none-left vs i l = drop_all i vs l

pub item-keeps : (vs : List Value) (i : ℕ) (v : Value) → i < length vs → v ≡ get_or vs i v → All Keeps vs → Keeps v
item-keeps vs i v l e h = subst Keeps (sym e) (All-get_or Keeps vs i v l h)

one-keeps : (at : ℕ) (v : Value) (vs : List Value) → (judged v).1 at ≡ true → all_keep (map judged vs) (at + spelled_length at v) ≡ all_keep (map judged (v ∷ vs)) at
one-keeps at v vs h =
    ap (λ (bytes : List ℕ). all_keep (map judged vs) (at + length bytes)) (sym (judged_text at v))
    ∙ first_holds ((judged v).1 at) (all_keep (map judged vs) (at + length ((judged v).0.1 at))) h

onward : (a far rest left whole : ℕ) → left ≡ far + rest → a + left ≡ whole → (a + far) + rest ≡ whole
onward a far rest left whole e h = omega arith

pub one-on : (passed at : ℕ) (all left rest : List Value) (v : Value) (w next : Walk) (o : OnWay passed at all left w) → left ≡ v ∷ rest
    → Passes ((judged v).1 o.place) (o.counted + spelled_length o.place v) (o.place + spelled_length o.place v) (Some next) → OnWay passed at all rest next
one-on passed at all left rest v w next o e h =
    let place : ℕ = o.place in
    let far : ℕ = spelled_length place v in
    let more : spelled_lengths place left ≡ far + spelled_lengths (place + far) rest = ap (λ (vs : List Value). spelled_lengths place vs) e ∙ values-more place v rest in
    record {
      counted = o.counted + far;
      place = place + far;
      stands = h.1;
      bytes = onward o.counted far (spelled_lengths (place + far) rest) (spelled_lengths place left) (passed + spelled_lengths at all) more o.bytes;
      offset = onward place far (spelled_lengths (place + far) rest) (spelled_lengths place left) (at + spelled_lengths at all) more o.offset;
      keeps = one-keeps place v rest h.0 ∙ (ap (λ (vs : List Value). all_keep (map judged vs) place) (sym e) ∙ o.keeps);
    }

pub one-stops : (passed at : ℕ) (all left rest : List Value) (v : Value) (w : Walk) (o : OnWay passed at all left w) → left ≡ v ∷ rest → (judged v).1 o.place ≡ false → all_keep (map judged all) at ≡ false
one-stops passed at all left rest v w o e h =
    sym o.keeps
    ∙ (ap (λ (vs : List Value). all_keep (map judged vs) o.place) e ∙ first_fails ((judged v).1 o.place) (all_keep (map judged rest) (o.place + length ((judged v).0.1 o.place))) h)

pub at-last : (passed at : ℕ) (all left : List Value) (w : Walk) → left ≡ [] → OnWay passed at all left w → Passes (all_keep (map judged all) at) (passed + spelled_lengths at all) (at + spelled_lengths at all) (Some w)
at-last passed at all left w e o =
    let b : o.counted + spelled_lengths o.place [] ≡ passed + spelled_lengths at all = ap (λ (vs : List Value). o.counted + spelled_lengths o.place vs) (sym e) ∙ o.bytes in
    let f : o.place + spelled_lengths o.place [] ≡ at + spelled_lengths at all = ap (λ (vs : List Value). o.place + spelled_lengths o.place vs) (sym e) ∙ o.offset in
    let kept : true ≡ all_keep (map judged all) at = ap (λ (vs : List Value). all_keep (map judged vs) o.place) (sym e) ∙ o.keeps in
    carried true (all_keep (map judged all) at) o.counted (passed + spelled_lengths at all) o.place (at + spelled_lengths at all) (Some w) kept (omega (arith, b)) (omega (arith, f)) (refl, o.stands)

-- ---- alignments

divides : (f : WireType-F WireType) → 8 % alignment_of f ≡ 0
divides WireType-F.Byte = refl
divides WireType-F.Bool = refl
divides WireType-F.I16 = refl
divides WireType-F.U16 = refl
divides WireType-F.I32 = refl
divides WireType-F.U32 = refl
divides WireType-F.I64 = refl
divides WireType-F.U64 = refl
divides WireType-F.Double = refl
divides WireType-F.Str = refl
divides WireType-F.ObjectPath = refl
divides WireType-F.Signature = refl
divides WireType-F.Handle = refl
divides WireType-F.Variant = refl
divides (WireType-F.Array t) = refl
divides (WireType-F.Struct ts) = refl
divides (WireType-F.DictEntry k v) = refl

pub alignment-divides : (t : WireType) → 8 % alignment t ≡ 0
alignment-divides t = divides (out-WireType t)
