-- Walks past values that hold no other.
use Rattle.std.proofs.Common.{◌≡◌, ℕ, ◌+◌, ◌<◌, ◌≤◌, ◌^◌, nat_lt, ℤ, List, [], ◌∷◌, ◌++◌, length, Bool, true, false, ◌&&◌, Option, None, Some, refl, sym, ap, subst, ◌∙◌, arith}
use Rattle.std.specs.Prelude.{IsTrue}
use Rattle.std.specs.Int.{w8, w16, w32, w64, to_le_bytes, cast_unsigned}
use Rattle.std.specs.Str.{is_utf8}
use Rattle.std.specs.List.{list_all}
use Rattle.std.proofs.lemmas.List.{length-append}
use Rattle.std.proofs.lemmas.Bool.Decides.{nat_tests}
use Rattle.std.proofs.lemmas.Str.{is_utf8-from_IsUtf8}
use Rattle.dbus_types.specs.declared.types.Endian.TheVariants.{Little}
use Rattle.dbus_types.specs.declared.types.Value.{Value, out-Value, the_lemmas}
use Rattle.dbus_types.specs.declared.types.Value.TheOpen.{Value-F}
use Rattle.dbus_types.specs.declared.types.Value.TheVariants as V
use Rattle.dbus_types.specs.Names.{is_path}
use Rattle.dbus_values.specs.Spells.{bit, gap, number}
use Rattle.dbus_values.specs.Spelling.{aligned, signature_body, spelled_length, text_body}
use Rattle.dbus_values.specs.Values.{IsSignatureText, IsText, LeafKeeps}
use Rattle.dbus_marshal.proofs.AsciiNames.{path_text, signature_text}
use Rattle.portal_base.specs.Names.{is_byte_of_path}
use Rattle.portal_base.proofs.NoZeros.{test_from_all}
use Rattle.portal_model.specs.Data.{Judged, is_signature, is_text_value, judge, judged}
use Rattle.portal_model.proofs.DataLaws.{above, judged_text, signature_passes, text_passes, within_16, within_32, within_64}
use Rattle.portal_model.proofs.DocumentChanges.{both}
use Rattle.portal_model.proofs.SpelledEnds.{behind}
use Rattle.store_data.specs.declared.walk.Walk.{Walk}
use Rattle.store_data.specs.Walks.{Passes, Stands}

pub assoc : (a b c : ℕ) → (a + b) + c ≡ a + (b + c)
assoc a b c = omega arith

-- the same rule at the same place
pub carried : (kept keeps : Bool) (p q a b : ℕ) (r : Option Walk) → kept ≡ keeps → p ≡ q → a ≡ b → Passes kept p a r → Passes keeps q b r
carried kept keeps p q a b r e f g h =
    subst (λ (x : Bool). Passes x q b r) e (subst (λ (x : ℕ). Passes kept x b r) f (subst (λ (x : ℕ). Passes kept p x r) g h))

-- a walk that has ended
pub stops : (keeps : Bool) (p a : ℕ) (r : Option Walk) → r ≡ None → keeps ≡ false → Passes keeps p a r
stops keeps p a r e h = subst (λ (o : Option Walk). Passes keeps p a o) (sym e) h

-- at the same place
pub stands-at : (p q a b : ℕ) (w : Walk) → p ≡ q → a ≡ b → Stands p a w → Stands q b w
stands-at p q a b w f g h = subst (λ (x : ℕ). Stands x b w) f (subst (λ (x : ℕ). Stands p x w) g h)

-- past a value whose outer layer is judged so
pub judged-so : (passed at count : ℕ) (keeps : Bool) (v u : Value) (j : Judged) (r : Option Walk) → v ≡ u → judged u ≡ j → keeps ≡ j.1 at → count ≡ length (j.0.1 at)
    → Passes keeps (passed + count) (at + count) r → Passes ((judged v).1 at) (passed + spelled_length at v) (at + spelled_length at v) r
judged-so passed at count keeps v u j r is layer kept long h =
    let same : judged v ≡ j = ap judged is ∙ layer in
    let test : keeps ≡ (judged v).1 at = kept ∙ ap (λ (x : Judged). x.1 at) (sym same) in
    let size : count ≡ spelled_length at v = long ∙ (ap (λ (x : Judged). length (x.0.1 at)) (sym same) ∙ ap (λ (bytes : List ℕ). length bytes) (judged_text at v)) in
    carried keeps ((judged v).1 at) (passed + count) (passed + spelled_length at v) (at + count) (at + spelled_length at v) r test (ap (λ (n : ℕ). passed + n) size) (ap (λ (n : ℕ). at + n) size) h

-- what the value itself keeps
kept-leaf : (v u : Value) (f : Value-F Value) → v ≡ u → out-Value u ≡ f → LeafKeeps (out-Value v) → LeafKeeps f
kept-leaf v u f is e h = subst LeafKeeps (ap out-Value is ∙ e) h

-- ---- numbers

number-bytes : (to at : ℕ) (body : ℕ → List ℕ) → length (body (at + gap to at)) ≡ to → gap to at + to ≡ length (aligned to body at)
number-bytes to at body e = omega (arith, behind to body at, e)

-- a number behind its padding
number-passes : (passed at to : ℕ) (body : ℕ → List ℕ) (v u : Value) (j : Judged) (w : Walk) → v ≡ u → judged u ≡ j → true ≡ j.1 at → aligned to body at ≡ j.0.1 at → length (body (at + gap to at)) ≡ to
    → Stands (passed + (gap to at + to)) (at + (gap to at + to)) w → Passes ((judged v).1 at) (passed + spelled_length at v) (at + spelled_length at v) (Some w)
number-passes passed at to body v u j w is layer kept bytes long h =
    judged-so passed at (gap to at + to) true v u j (Some w) is layer kept (number-bytes to at body long ∙ ap (λ (b : List ℕ). length b) bytes) (refl, h)

judged_byte : (n : ℕ) → judged (V.Byte n) ≡ judge (Value-F.Byte n)
judged_byte n = search the_lemmas

out_byte : (n : ℕ) → out-Value (V.Byte n) ≡ Value-F.Byte n
out_byte n = search the_lemmas

pub byte-passes : (passed at n : ℕ) (v : Value) (w : Walk) → v ≡ V.Byte n → LeafKeeps (out-Value v) → Stands (passed + 1) (at + 1) w → Passes ((judged v).1 at) (passed + spelled_length at v) (at + spelled_length at v) (Some w)
byte-passes passed at n v w is k h =
    let small : n < 2 ^ 8 = kept-leaf v (V.Byte n) (Value-F.Byte n) is (out_byte n) k in
    judged-so passed at 1 true v (V.Byte n) (judge (Value-F.Byte n)) (Some w) is (judged_byte n) (sym (above n (2 ^ 8) small)) refl (refl, h)

judged_bool : (b : Bool) → judged (V.Bool b) ≡ judge (Value-F.Bool b)
judged_bool b = search the_lemmas

pub bool-passes : (passed at : ℕ) (b : Bool) (v : Value) (w : Walk) → v ≡ V.Bool b → Stands (passed + (gap 4 at + 4)) (at + (gap 4 at + 4)) w → Passes ((judged v).1 at) (passed + spelled_length at v) (at + spelled_length at v) (Some w)
bool-passes passed at b v w is h = number-passes passed at 4 (λ start. number Little w32 (bit b)) v (V.Bool b) (judge (Value-F.Bool b)) w is (judged_bool b) refl refl refl h

judged_i16 : (z : ℤ) → judged (V.I16 z) ≡ judge (Value-F.I16 z)
judged_i16 z = search the_lemmas

out_i16 : (z : ℤ) → out-Value (V.I16 z) ≡ Value-F.I16 z
out_i16 z = search the_lemmas

pub i16-passes : (passed at : ℕ) (z : ℤ) (v : Value) (w : Walk) → v ≡ V.I16 z → LeafKeeps (out-Value v) → Stands (passed + (gap 2 at + 2)) (at + (gap 2 at + 2)) w → Passes ((judged v).1 at) (passed + spelled_length at v) (at + spelled_length at v) (Some w)
i16-passes passed at z v w is k h =
    let fits : LeafKeeps (Value-F.I16 z) = kept-leaf v (V.I16 z) (Value-F.I16 z) is (out_i16 z) k in
    number-passes passed at 2 (λ start. number Little w16 (cast_unsigned w16 z)) v (V.I16 z) (judge (Value-F.I16 z)) w is (judged_i16 z) (sym (within_16 z fits)) refl refl h

judged_u16 : (n : ℕ) → judged (V.U16 n) ≡ judge (Value-F.U16 n)
judged_u16 n = search the_lemmas

out_u16 : (n : ℕ) → out-Value (V.U16 n) ≡ Value-F.U16 n
out_u16 n = search the_lemmas

pub u16-passes : (passed at n : ℕ) (v : Value) (w : Walk) → v ≡ V.U16 n → LeafKeeps (out-Value v) → Stands (passed + (gap 2 at + 2)) (at + (gap 2 at + 2)) w → Passes ((judged v).1 at) (passed + spelled_length at v) (at + spelled_length at v) (Some w)
u16-passes passed at n v w is k h =
    let small : n < 2 ^ 16 = kept-leaf v (V.U16 n) (Value-F.U16 n) is (out_u16 n) k in
    number-passes passed at 2 (λ start. number Little w16 n) v (V.U16 n) (judge (Value-F.U16 n)) w is (judged_u16 n) (sym (above n (2 ^ 16) small)) refl refl h

judged_i32 : (z : ℤ) → judged (V.I32 z) ≡ judge (Value-F.I32 z)
judged_i32 z = search the_lemmas

out_i32 : (z : ℤ) → out-Value (V.I32 z) ≡ Value-F.I32 z
out_i32 z = search the_lemmas

pub i32-passes : (passed at : ℕ) (z : ℤ) (v : Value) (w : Walk) → v ≡ V.I32 z → LeafKeeps (out-Value v) → Stands (passed + (gap 4 at + 4)) (at + (gap 4 at + 4)) w → Passes ((judged v).1 at) (passed + spelled_length at v) (at + spelled_length at v) (Some w)
i32-passes passed at z v w is k h =
    let fits : LeafKeeps (Value-F.I32 z) = kept-leaf v (V.I32 z) (Value-F.I32 z) is (out_i32 z) k in
    number-passes passed at 4 (λ start. number Little w32 (cast_unsigned w32 z)) v (V.I32 z) (judge (Value-F.I32 z)) w is (judged_i32 z) (sym (within_32 z fits)) refl refl h

judged_u32 : (n : ℕ) → judged (V.U32 n) ≡ judge (Value-F.U32 n)
judged_u32 n = search the_lemmas

out_u32 : (n : ℕ) → out-Value (V.U32 n) ≡ Value-F.U32 n
out_u32 n = search the_lemmas

pub u32-passes : (passed at n : ℕ) (v : Value) (w : Walk) → v ≡ V.U32 n → LeafKeeps (out-Value v) → Stands (passed + (gap 4 at + 4)) (at + (gap 4 at + 4)) w → Passes ((judged v).1 at) (passed + spelled_length at v) (at + spelled_length at v) (Some w)
u32-passes passed at n v w is k h =
    let small : n < 2 ^ 32 = kept-leaf v (V.U32 n) (Value-F.U32 n) is (out_u32 n) k in
    number-passes passed at 4 (λ start. number Little w32 n) v (V.U32 n) (judge (Value-F.U32 n)) w is (judged_u32 n) (sym (above n (2 ^ 32) small)) refl refl h

judged_handle : (n : ℕ) → judged (V.Handle n) ≡ judge (Value-F.Handle n)
judged_handle n = search the_lemmas

out_handle : (n : ℕ) → out-Value (V.Handle n) ≡ Value-F.Handle n
out_handle n = search the_lemmas

pub handle-passes : (passed at n : ℕ) (v : Value) (w : Walk) → v ≡ V.Handle n → LeafKeeps (out-Value v) → Stands (passed + (gap 4 at + 4)) (at + (gap 4 at + 4)) w → Passes ((judged v).1 at) (passed + spelled_length at v) (at + spelled_length at v) (Some w)
handle-passes passed at n v w is k h =
    let small : n < 2 ^ 32 = kept-leaf v (V.Handle n) (Value-F.Handle n) is (out_handle n) k in
    number-passes passed at 4 (λ start. number Little w32 n) v (V.Handle n) (judge (Value-F.Handle n)) w is (judged_handle n) (sym (above n (2 ^ 32) small)) refl refl h

judged_i64 : (z : ℤ) → judged (V.I64 z) ≡ judge (Value-F.I64 z)
judged_i64 z = search the_lemmas

out_i64 : (z : ℤ) → out-Value (V.I64 z) ≡ Value-F.I64 z
out_i64 z = search the_lemmas

pub i64-passes : (passed at : ℕ) (z : ℤ) (v : Value) (w : Walk) → v ≡ V.I64 z → LeafKeeps (out-Value v) → Stands (passed + (gap 8 at + 8)) (at + (gap 8 at + 8)) w → Passes ((judged v).1 at) (passed + spelled_length at v) (at + spelled_length at v) (Some w)
i64-passes passed at z v w is k h =
    let fits : LeafKeeps (Value-F.I64 z) = kept-leaf v (V.I64 z) (Value-F.I64 z) is (out_i64 z) k in
    number-passes passed at 8 (λ start. number Little w64 (cast_unsigned w64 z)) v (V.I64 z) (judge (Value-F.I64 z)) w is (judged_i64 z) (sym (within_64 z fits)) refl refl h

judged_u64 : (n : ℕ) → judged (V.U64 n) ≡ judge (Value-F.U64 n)
judged_u64 n = search the_lemmas

out_u64 : (n : ℕ) → out-Value (V.U64 n) ≡ Value-F.U64 n
out_u64 n = search the_lemmas

pub u64-passes : (passed at n : ℕ) (v : Value) (w : Walk) → v ≡ V.U64 n → LeafKeeps (out-Value v) → Stands (passed + (gap 8 at + 8)) (at + (gap 8 at + 8)) w → Passes ((judged v).1 at) (passed + spelled_length at v) (at + spelled_length at v) (Some w)
u64-passes passed at n v w is k h =
    let small : n < 2 ^ 64 = kept-leaf v (V.U64 n) (Value-F.U64 n) is (out_u64 n) k in
    number-passes passed at 8 (λ start. number Little w64 n) v (V.U64 n) (judge (Value-F.U64 n)) w is (judged_u64 n) (sym (above n (2 ^ 64) small)) refl refl h

judged_double : (n : ℕ) → judged (V.Double n) ≡ judge (Value-F.Double n)
judged_double n = search the_lemmas

out_double : (n : ℕ) → out-Value (V.Double n) ≡ Value-F.Double n
out_double n = search the_lemmas

pub double-passes : (passed at n : ℕ) (v : Value) (w : Walk) → v ≡ V.Double n → LeafKeeps (out-Value v) → Stands (passed + (gap 8 at + 8)) (at + (gap 8 at + 8)) w → Passes ((judged v).1 at) (passed + spelled_length at v) (at + spelled_length at v) (Some w)
double-passes passed at n v w is k h =
    let small : n < 2 ^ 64 = kept-leaf v (V.Double n) (Value-F.Double n) is (out_double n) k in
    number-passes passed at 8 (λ start. number Little w64 n) v (V.Double n) (judge (Value-F.Double n)) w is (judged_double n) (sym (above n (2 ^ 64) small)) refl refl h

-- ---- texts

pub long : (n : ℕ) → 4_294_967_295 < n → nat_lt n (2 ^ 32) ≡ false
long n h = grind (arith, nat_tests)

pub short : (n : ℕ) → n ≤ 4_294_967_295 → nat_lt n (2 ^ 32) ≡ true
short n h = grind (arith, nat_tests)

number_32 : (n : ℕ) → length (number Little w32 n) ≡ 4
number_32 n = refl

text-bytes : (at : ℕ) (text : List ℕ) → gap 4 at + (4 + length text + 1) ≡ length (aligned 4 (λ start. text_body Little text) at)
text-bytes at text = omega (
  arith,
  behind 4 (λ start. text_body Little text) at,
  length-append (number Little w32 (length text)) (text ++ 0 ∷ []),
  length-append text (0 ∷ []),
  number_32 (length text),
)

-- a text of so many bytes
pub text-so : (passed at count : ℕ) (text : List ℕ) (r : Option Walk) → count ≡ length text → Passes (nat_lt count (2 ^ 32)) (passed + (gap 4 at + (4 + count + 1))) (at + (gap 4 at + (4 + count + 1))) r
    → Passes (nat_lt (length text) (2 ^ 32)) (passed + (gap 4 at + (4 + length text + 1))) (at + (gap 4 at + (4 + length text + 1))) r
text-so passed at count text r e h = subst (λ (n : ℕ). Passes (nat_lt n (2 ^ 32)) (passed + (gap 4 at + (4 + n + 1))) (at + (gap 4 at + (4 + n + 1))) r) e h

third : (a b c : Bool) → a ≡ true → b ≡ true → c ≡ (a && (b && c))
third true true c h k = refl
third true false c h k = cc
third false b c h k = cc

-- of a text that keeps the rules, its length alone is left to judge
length-left : (text : List ℕ) → IsText text → nat_lt (length text) (2 ^ 32) ≡ is_text_value text
length-left text h = third (is_utf8 text) (list_all is_byte_of_path text) (nat_lt (length text) (2 ^ 32)) (is_utf8-from_IsUtf8 text h.0) (test_from_all text h.1)

judged_str : (text : List ℕ) → judged (V.Str text) ≡ judge (Value-F.Str text)
judged_str text = search the_lemmas

out_str : (text : List ℕ) → out-Value (V.Str text) ≡ Value-F.Str text
out_str text = search the_lemmas

pub str-passes : (passed at : ℕ) (text : List ℕ) (v : Value) (r : Option Walk) → v ≡ V.Str text → LeafKeeps (out-Value v)
    → Passes (nat_lt (length text) (2 ^ 32)) (passed + (gap 4 at + (4 + length text + 1))) (at + (gap 4 at + (4 + length text + 1))) r → Passes ((judged v).1 at) (passed + spelled_length at v) (at + spelled_length at v) r
str-passes passed at text v r is k h =
    let good : IsText text = kept-leaf v (V.Str text) (Value-F.Str text) is (out_str text) k in
    judged-so passed at (gap 4 at + (4 + length text + 1)) (nat_lt (length text) (2 ^ 32)) v (V.Str text) (judge (Value-F.Str text)) r is (judged_str text) (length-left text good) (text-bytes at text) h

with-true : (a b c : Bool) → c ≡ a → b ≡ true → c ≡ (a && b)
with-true true b c e h = e ∙ sym h
with-true false b c e h = e

judged_path : (text : List ℕ) → judged (V.ObjectPath text) ≡ judge (Value-F.ObjectPath text)
judged_path text = search the_lemmas

out_path : (text : List ℕ) → out-Value (V.ObjectPath text) ≡ Value-F.ObjectPath text
out_path text = search the_lemmas

pub path-passes : (passed at : ℕ) (text : List ℕ) (v : Value) (r : Option Walk) → v ≡ V.ObjectPath text → LeafKeeps (out-Value v)
    → Passes (nat_lt (length text) (2 ^ 32)) (passed + (gap 4 at + (4 + length text + 1))) (at + (gap 4 at + (4 + length text + 1))) r → Passes ((judged v).1 at) (passed + spelled_length at v) (at + spelled_length at v) r
path-passes passed at text v r is k h =
    let good : IsTrue (is_path text) = kept-leaf v (V.ObjectPath text) (Value-F.ObjectPath text) is (out_path text) k in
    judged-so passed at (gap 4 at + (4 + length text + 1)) (nat_lt (length text) (2 ^ 32)) v (V.ObjectPath text) (judge (Value-F.ObjectPath text)) r is (judged_path text)
    (with-true (is_text_value text) (is_path text) (nat_lt (length text) (2 ^ 32)) (length-left text (path_text text good)) good) (text-bytes at text) h

judged_signature : (text : List ℕ) → judged (V.Signature text) ≡ judge (Value-F.Signature text)
judged_signature text = search the_lemmas

out_signature : (text : List ℕ) → out-Value (V.Signature text) ≡ Value-F.Signature text
out_signature text = search the_lemmas

signature-bytes : (text : List ℕ) → length text + 2 ≡ length (signature_body text)
signature-bytes text = omega (arith, length-append (to_le_bytes w8 (length text)) (text ++ 0 ∷ []), length-append text (0 ∷ []))

pub signature-is : (passed at : ℕ) (text : List ℕ) (count : ℕ) (v : Value) (w : Walk) → v ≡ V.Signature text → count ≡ length text → LeafKeeps (out-Value v) → Stands ((passed + count) + 2) ((at + count) + 2) w
    → Passes ((judged v).1 at) (passed + spelled_length at v) (at + spelled_length at v) (Some w)
signature-is passed at text count v w is long k h =
    let good : IsSignatureText text = kept-leaf v (V.Signature text) (Value-F.Signature text) is (out_signature text) k in
    let small : length text < 2 ^ 32 = omega (arith, good.1.2) in
    let kept : (is_text_value text && is_signature text) ≡ true = both (is_text_value text) (is_signature text) (text_passes text (signature_text text good) small) (signature_passes text good) in
    let p : (passed + count) + 2 ≡ passed + (length text + 2) = omega (arith, long) in
    let a : (at + count) + 2 ≡ at + (length text + 2) = omega (arith, long) in
    judged-so passed at (length text + 2) true v (V.Signature text) (judge (Value-F.Signature text)) (Some w) is (judged_signature text) (sym kept) (signature-bytes text)
    (refl, stands-at ((passed + count) + 2) (passed + (length text + 2)) ((at + count) + 2) (at + (length text + 2)) w p a h)
