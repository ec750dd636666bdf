-- What is spelled so is read, whatever follows.
use Rattle.std.proofs.Common.{◌≡◌, ℕ, zero, suc, ◌+◌, ◌^◌, ◌<◌, ◌≤◌, Bool, true, false, ltb, List, [], ◌∷◌, ◌++◌, length, replicate, Result, Ok, Err, refl, sym, ap, subst, ◌∙◌, append_assoc, append-nil, arith}
use Rattle.std.specs.Int.{w16, w32, w64, cast_signed}
use Rattle.std.proofs.lemmas.Bool.{le-ltb}
use Rattle.std.proofs.lemmas.List.{length-append, length-replicate, append_cancel_right}
use Rattle.dbus_types.specs.declared.types.Endian.{Endian}
use Rattle.dbus_types.specs.declared.types.WireType.{WireType, out-WireType}
use Rattle.dbus_types.specs.declared.types.WireType.TheOpen.{WireType-F}
use Rattle.dbus_types.specs.declared.types.Value.{Value}
use Rattle.dbus_types.specs.declared.types.Value.TheVariants as V
use Rattle.dbus_basic.specs.declared.error.ReadError.{ReadError}
use Rattle.dbus_basic.specs.declared.error.ReadError.TheVariants.{BadText, BadSignature}
use Rattle.dbus_types.specs.Types.{alignment, type_text}
use Rattle.dbus_values.specs.Values.{IsText, IsSignatureText, array_of}
use Rattle.dbus_values.specs.Spells.{number, gap, Aligned, IsPath, bit, Members, Elements, BoolRow, NumberRow, TextRow, ArrayRow, StructRow, EntryRow, Flat, Row, NoneInside, SpellsWithin}
use Rattle.dbus_basic.specs.Reading.{◌>>=◌, Read}
use Rattle.dbus_basic.specs.Fields.{padded, number_at, byte_at, ended, truth}
use Rattle.dbus_marshal.specs.Reads.{is_text, is_path_text, text_at, numbered, texted, signature_at, members, elements, fixed, flat, layer, reads}
use Rattle.dbus_marshal.proofs.Signatures.{types_again, type_again}
use Rattle.dbus_marshal.proofs.Words.{is_text_of, is_path_of}
use Rattle.dbus_marshal.proofs.TakenFronts.{Wide, two, four, eight, width, size, zeros_again, taken_again, number_again, number_len}

-- a step that is read, and then the others
then_read : {A B : Type 0} (r : Result A ReadError) (f : A → Result B ReadError) (x : A) (y : Result B ReadError) → r ≡ Ok x → f x ≡ y → (r >>= f) ≡ y
then_read r f x y e h = rw e h

abbrev ok : {A : Type 0} → A → ℕ → List ℕ → Read A
ok v next rest = Ok (v, next, rest)

abbrev done : {A : Type 0} → A → Result A ReadError
done x = Ok x

pub ok_is : {A : Type 0} (x y : A) → done x ≡ done y → x ≡ y
ok_is x y e = cc

aligned_again : {X : Type 0} (to at : ℕ) (text rest : List ℕ) (Body : ℕ → List ℕ → Type 0) (f : ℕ × List ℕ → Read X) (v : X) → Aligned to at Body text
    → ((start : ℕ) (body : List ℕ) → Body start body → f (start, body ++ rest) ≡ ok v (start + length body) rest)
    → (padded to at (text ++ rest) >>= f) ≡ ok v (at + length text) rest
aligned_again to at text rest Body f v a h = rw (a.1, append_assoc (replicate (gap to at) 0) a.0 rest, zeros_again (gap to at) at (a.0 ++ rest), h (at + gap to at) a.0 a.2)
    (ap (λ (k : ℕ). ok v k rest) (omega (arith, length-append (replicate (gap to at) 0) a.0, length-replicate {A = ℕ} (gap to at) 0)))

ended_again : (e : ReadError) (at : ℕ) (rest : List ℕ) → ended e at (0 ∷ rest) ≡ Ok (at + 1, rest)
unfolding ended
ended_again e at rest = refl

text_again : (e : Endian) (good : List ℕ → Bool) (at : ℕ) (text rest : List ℕ) → good text ≡ true → length text < 2 ^ 32 → text_at e good at ((number e w32 (length text) ++ (text ++ 0 ∷ [])) ++ rest) ≡ ok text (at + length (number e w32 (length text) ++ (text ++ 0 ∷ []))) rest
unfolding text_at
text_again e good at text rest is lt =
    let regrouped : (number e w32 (length text) ++ (text ++ 0 ∷ [])) ++ rest ≡ number e w32 (length text) ++ (text ++ 0 ∷ rest) = append_assoc (number e w32 (length text)) (text ++ 0 ∷ []) rest ∙ ap (λ (w : List ℕ). number e w32 (length text) ++ w) (append_assoc text (0 ∷ []) rest) in
    rw (regrouped, number_again e four at (length text) (text ++ 0 ∷ rest) lt, taken_again (length text) (at + 4) text (0 ∷ rest) refl, is, ended_again (BadText (at + 4 + length text)) (at + 4 + length text) rest)
    (ap (λ (k : ℕ). ok text k rest) (omega (arith, number_len e four (length text), length-append (number e w32 (length text)) (text ++ 0 ∷ []), length-append text (0 ∷ []))))

truth_again : (at : ℕ) (b : Bool) → truth at (bit b) ≡ Ok b
unfolding truth
truth_again at true = refl
truth_again at false = refl

bit_below : (b : Bool) → bit b < 2 ^ 32
bit_below true = omega arith
bit_below false = omega arith

and_then : {A B C : Type 0} (r : Result A ReadError) (f : A → Result B ReadError) (g : B → Result C ReadError) → ((r >>= f) >>= g) ≡ (r >>= λ x. f x >>= g)
and_then (Ok x) f g = refl
and_then (Err e) f g = refl

numbered_again : (e : Endian) (to : ℕ) (k : Wide) (make : ℕ → Value) (at : ℕ) (v : Value) (text rest : List ℕ) → Aligned to at (NumberRow e (width k) make v) text → numbered e to (width k) make at (text ++ rest) ≡ ok v (at + length text) rest
numbered_again e to k make at v text rest h = and_then (padded to at (text ++ rest)) (λ start. number_at e (width k) start.0 start.1) (λ n. Ok (make n.0, n.1, n.2))
    ∙ aligned_again to at text rest (NumberRow e (width k) make v) (λ start. number_at e (width k) start.0 start.1 >>= λ n. Ok (make n.0, n.1, n.2)) v h (λ start body b.
    rw (b.3, number_again e k start b.0 rest b.2, number_len e k b.0, b.1) refl)

texted_again : (e : Endian) (good : List ℕ → Bool) (Good : List ℕ → Type 0) → ((text : List ℕ) → Good text → good text ≡ true) → (make : List ℕ → Value) (at : ℕ) (v : Value) (text rest : List ℕ)
    → Aligned 4 at (TextRow e Good make v) text → texted e good make at (text ++ rest) ≡ ok v (at + length text) rest
texted_again e good Good is make at v text rest h = aligned_again 4 at text rest (TextRow e Good make v) (λ start. text_at e good start.0 start.1 >>= λ text. Ok (make text.0, text.1, text.2)) v h (λ start body b.
    rw (b.4, text_again e good start b.0 rest (is b.0 b.2) b.3, b.1) refl)

signature_again : (at : ℕ) (text rest : List ℕ) → IsText text → IsSignatureText text → signature_at at ((length text ∷ (text ++ 0 ∷ [])) ++ rest) ≡ ok text (at + length (length text ∷ (text ++ 0 ∷ []))) rest
unfolding signature_at byte_at
signature_again at text rest good is =
    rw (append_assoc text (0 ∷ []) rest, taken_again (length text) (at + 1) text (0 ∷ rest) refl, types_again (at + 1) text is.0 is.1, is_text_of text good, ended_again (BadSignature (at + 1 + length text)) (at + 1 + length text) rest)
    (ap (λ (k : ℕ). ok text k rest) (omega (arith, length-append text (0 ∷ []))))

flat_again : (e : Endian) (t : WireType-F WireType) (at : ℕ) (v : Value) (text rest : List ℕ) → Flat e t at v text → flat e t at (text ++ rest) ≡ ok v (at + length text) rest
unfolding flat fixed byte_at
flat_again e WireType-F.Byte at v text rest h = rw (h.3, h.1) refl
flat_again e WireType-F.Bool at v text rest h = aligned_again 4 at text rest (BoolRow e v) _ v h (λ start body b.
    rw (b.2, number_again e four start (bit b.0) rest (bit_below b.0), truth_again start b.0, number_len e four (bit b.0), b.1) refl)
flat_again e WireType-F.I16 at v text rest h = numbered_again e 2 two (λ n. V.I16 (cast_signed w16 n)) at v text rest h
flat_again e WireType-F.U16 at v text rest h = numbered_again e 2 two (λ n. V.U16 n) at v text rest h
flat_again e WireType-F.I32 at v text rest h = numbered_again e 4 four (λ n. V.I32 (cast_signed w32 n)) at v text rest h
flat_again e WireType-F.U32 at v text rest h = numbered_again e 4 four (λ n. V.U32 n) at v text rest h
flat_again e WireType-F.I64 at v text rest h = numbered_again e 8 eight (λ n. V.I64 (cast_signed w64 n)) at v text rest h
flat_again e WireType-F.U64 at v text rest h = numbered_again e 8 eight (λ n. V.U64 n) at v text rest h
flat_again e WireType-F.Double at v text rest h = numbered_again e 8 eight (λ n. V.Double n) at v text rest h
flat_again e WireType-F.Handle at v text rest h = numbered_again e 4 four (λ n. V.Handle n) at v text rest h
flat_again e WireType-F.Str at v text rest h = texted_again e is_text IsText is_text_of (λ text. V.Str text) at v text rest h
flat_again e WireType-F.ObjectPath at v text rest h = texted_again e is_path_text IsPath is_path_of (λ text. V.ObjectPath text) at v text rest h
flat_again e WireType-F.Signature at v text rest h = rw (h.4, signature_again at h.0 rest h.2 h.3, h.1) refl
flat_again e t at v text rest h = absurd h

module _ (r : WireType → ℕ → List ℕ → Read Value) (S : WireType → ℕ → Value → List ℕ → Type 0)
    (again : (t : WireType) (at : ℕ) (v : Value) (text rest : List ℕ) → S t at v text → r t at (text ++ rest) ≡ ok v (at + length text) rest)
    (fills : (t : WireType) (at : ℕ) (v : Value) (text : List ℕ) → S t at v text → 0 < length text) where
  members_again : (ts : List WireType) (vs : List Value) (at : ℕ) (text rest : List ℕ) → Members S ts vs at text → members r ts at (text ++ rest) ≡ ok vs (at + length text) rest
  unfolding members
  members_again [] [] at text rest h = rw h (ap (λ (k : ℕ). ok [] k rest) (omega arith))
  members_again [] (v ∷ vs) at text rest h = absurd h
  members_again (t ∷ ts) [] at text rest h = absurd h
  members_again (t ∷ ts) (v ∷ vs) at text rest h =
      rw (h.2, append_assoc h.0 h.1 rest, again t at v h.0 (h.1 ++ rest) h.3, members_again ts vs (at + length h.0) h.1 rest h.4)
      (ap (λ (k : ℕ). ok (v ∷ vs) k rest) (omega (arith, length-append h.0 h.1)))

  no_elements : (n : ℕ) (t : WireType) (at : ℕ) → elements n (r t) at [] ≡ Ok []
  unfolding elements
  no_elements zero t at = refl
  no_elements (suc n) t at = refl

  one_more : (n : ℕ) (t : WireType) (at : ℕ) (first : List ℕ) (v : Value) (next : ℕ) (rest : List ℕ) (vs : List Value) → 0 < length first → r t at (first ++ rest) ≡ Ok (v, next, rest) → elements n (r t) next rest ≡ Ok vs → elements (suc n) (r t) at (first ++ rest) ≡ Ok (v ∷ vs)
  unfolding elements
  one_more n t at [] v next rest vs lt is more = absurd (omega (arith, lt))
  one_more n t at (b ∷ bs) v next rest vs lt is more = rw (is, more) refl

  elements_again : (vs : List Value) (n : ℕ) (t : WireType) (at : ℕ) (text : List ℕ) → length text ≤ n → Elements S t vs at text → elements n (r t) at text ≡ Ok vs
  elements_again [] n t at text le h = rw h (no_elements n t at)
  elements_again (v ∷ vs) zero t at text le h = absurd (omega (arith, le, ap length h.2, length-append h.0 h.1, fills t at v h.0 h.3))
  elements_again (v ∷ vs) (suc n) t at text le h =
      let lt = fills t at v h.0 h.3 in
      rw h.2 (one_more n t at h.0 v (at + length h.0) h.1 vs lt (again t at v h.0 h.1 h.3) (elements_again vs n t (at + length h.0) h.1 (omega (arith, le, ap length h.2, length-append h.0 h.1, lt)) h.4))

  array_again : (e : Endian) (t : WireType) (at : ℕ) (v : Value) (text rest : List ℕ) → Row S e (WireType-F.Array t) at v text → layer r e (WireType-F.Array t) at (text ++ rest) ≡ ok v (at + length text) rest
  unfolding layer
  array_again e t at v text rest h = aligned_again 4 at text rest (ArrayRow S e t v) _ v h (λ start body b.
      let g : ℕ = gap (alignment t) (start + 4) in
      let zs : List ℕ = replicate g 0 in
      let n : List ℕ = number e w32 (length b.1) in
      let regrouped : body ++ rest ≡ n ++ (zs ++ (b.1 ++ rest)) = ap (λ (w : List ℕ). w ++ rest) b.4 ∙ (append_assoc n (zs ++ b.1) rest ∙ ap (λ (w : List ℕ). n ++ w) (append_assoc zs b.1 rest)) in
      let short : ltb 67_108_864 (length b.1) ≡ false = le-ltb _ _ b.3 in
      let len : length body ≡ 4 + (g + length b.1) = omega (arith, ap length b.4, length-append n (zs ++ b.1), length-append zs b.1, number_len e four (length b.1), length-replicate {A = ℕ} g 0) in
      rw (
        regrouped,
        number_again e four start (length b.1) (zs ++ (b.1 ++ rest)) (omega (arith, b.3)),
        short,
        zeros_again g (start + 4) (b.1 ++ rest),
        taken_again (length b.1) (start + 4 + g) b.1 rest refl,
        elements_again b.0 (length b.1) t (start + 4 + g) b.1 (omega arith) b.5,
        b.2,
      )
      (ap (λ (k : ℕ). ok (array_of t b.0) k rest) (omega (arith, len))))

  struct_again : (e : Endian) (ts : List WireType) (at : ℕ) (v : Value) (text rest : List ℕ) → Row S e (WireType-F.Struct ts) at v text → layer r e (WireType-F.Struct ts) at (text ++ rest) ≡ ok v (at + length text) rest
  unfolding layer
  struct_again e [] at v text rest h = absurd (omega (arith, h.2.2))
  struct_again e (t ∷ ts) at v text rest h = aligned_again 8 at text rest (StructRow S (t ∷ ts) v) _ v h (λ start body b.
      rw (members_again (t ∷ ts) b.0 start body rest b.3, b.1) refl)

  entry_again : (e : Endian) (t u : WireType) (at : ℕ) (v : Value) (text rest : List ℕ) → Row S e (WireType-F.DictEntry t u) at v text → layer r e (WireType-F.DictEntry t u) at (text ++ rest) ≡ ok v (at + length text) rest
  unfolding layer
  entry_again e t u at v text rest h = aligned_again 8 at text rest (EntryRow S t u v) _ v h (λ start body b.
      let m = b.3 in
      let l = m.4 in
      let whole : body ++ rest ≡ m.0 ++ (l.0 ++ rest) = ap (λ (w : List ℕ). w ++ rest) (m.2 ∙ ap (λ (w : List ℕ). m.0 ++ w) (l.2 ∙ (ap (λ (w : List ℕ). l.0 ++ w) l.4 ∙ append-nil l.0))) ∙ append_assoc m.0 l.0 rest in
      rw (whole, again t start b.0 m.0 (l.0 ++ rest) m.3, again u (start + length m.0) b.1 l.0 rest l.3, b.2)
      (ap (λ (k : ℕ). ok (V.DictEntry b.0 b.1) k rest) (omega (arith, ap length m.2, length-append m.0 m.1, ap length l.2, length-append l.0 l.1, ap length l.4))))

  variant_again : (e : Endian) (at : ℕ) (v : Value) (text rest : List ℕ) → Row S e WireType-F.Variant at v text → layer r e WireType-F.Variant at (text ++ rest) ≡ ok v (at + length text) rest
  unfolding layer byte_at
  variant_again e at v text rest h =
      let name : List ℕ = type_text h.0 in
      let inside : List ℕ = h.2 in
      let place : at + (1 + length name + 1) ≡ at + 1 + length name + 1 = omega arith in
      let found = again h.0 (at + 1 + length name + 1) h.1 inside rest (subst (λ (k : ℕ). S h.0 k h.1 inside) place h.6) in
      rw (h.5, append_assoc name (0 ∷ inside) rest, taken_again (length name) (at + 1) name (0 ∷ (inside ++ rest)) refl, type_again (at + 1) h.0 h.4, ended_again (BadSignature (at + 1 + length name)) (at + 1 + length name) (inside ++ rest), found, h.3)
      (ap (λ (k : ℕ). ok (V.Variant h.1) k rest) (omega (arith, length-append name (0 ∷ inside))))

  pub layer_again : (e : Endian) (t : WireType-F WireType) (at : ℕ) (v : Value) (text rest : List ℕ) → Row S e t at v text → layer r e t at (text ++ rest) ≡ ok v (at + length text) rest
  unfolding layer
  layer_again e (WireType-F.Array t) at v text rest h = array_again e t at v text rest h
  layer_again e (WireType-F.Struct ts) at v text rest h = struct_again e ts at v text rest h
  layer_again e (WireType-F.DictEntry t u) at v text rest h = entry_again e t u at v text rest h
  layer_again e WireType-F.Variant at v text rest h = variant_again e at v text rest h
  layer_again e t at v text rest h = flat_again e t at v text rest h

-- ---- no spelling is empty

aligned_fills : (to at : ℕ) (Body : ℕ → List ℕ → Type 0) (text : List ℕ) → Aligned to at Body text → ((start : ℕ) (body : List ℕ) → Body start body → 0 < length body) → 0 < length text
aligned_fills to at Body text h more = omega (arith, ap length h.1, length-append (replicate (gap to at) 0) h.0, more (at + gap to at) h.0 h.2)

size_fills : (k : Wide) → 0 < size k
size_fills two = omega arith
size_fills four = omega arith
size_fills eight = omega arith

numbered_fills : (e : Endian) (to : ℕ) (k : Wide) (make : ℕ → Value) (at : ℕ) (v : Value) (text : List ℕ) → Aligned to at (NumberRow e (width k) make v) text → 0 < length text
numbered_fills e to k make at v text h = aligned_fills to at (NumberRow e (width k) make v) text h (λ start body b. omega (arith, ap length b.3, number_len e k b.0, size_fills k))

texted_fills : (e : Endian) (Good : List ℕ → Type 0) (make : List ℕ → Value) (at : ℕ) (v : Value) (text : List ℕ) → Aligned 4 at (TextRow e Good make v) text → 0 < length text
texted_fills e Good make at v text h = aligned_fills 4 at (TextRow e Good make v) text h (λ start body b. omega (arith, ap length b.4, number_len e four (length b.0), length-append (number e w32 (length b.0)) (b.0 ++ 0 ∷ [])))

flat_fills : (e : Endian) (t : WireType-F WireType) (at : ℕ) (v : Value) (text : List ℕ) → Flat e t at v text → 0 < length text
flat_fills e WireType-F.Byte at v text h = omega (arith, ap length h.3)
flat_fills e WireType-F.Bool at v text h = aligned_fills 4 at (BoolRow e v) text h (λ start body b. omega (arith, ap length b.2, number_len e four (bit b.0)))
flat_fills e WireType-F.I16 at v text h = numbered_fills e 2 two (λ n. V.I16 (cast_signed w16 n)) at v text h
flat_fills e WireType-F.U16 at v text h = numbered_fills e 2 two (λ n. V.U16 n) at v text h
flat_fills e WireType-F.I32 at v text h = numbered_fills e 4 four (λ n. V.I32 (cast_signed w32 n)) at v text h
flat_fills e WireType-F.U32 at v text h = numbered_fills e 4 four (λ n. V.U32 n) at v text h
flat_fills e WireType-F.I64 at v text h = numbered_fills e 8 eight (λ n. V.I64 (cast_signed w64 n)) at v text h
flat_fills e WireType-F.U64 at v text h = numbered_fills e 8 eight (λ n. V.U64 n) at v text h
flat_fills e WireType-F.Double at v text h = numbered_fills e 8 eight (λ n. V.Double n) at v text h
flat_fills e WireType-F.Handle at v text h = numbered_fills e 4 four (λ n. V.Handle n) at v text h
flat_fills e WireType-F.Str at v text h = texted_fills e IsText (λ text. V.Str text) at v text h
flat_fills e WireType-F.ObjectPath at v text h = texted_fills e IsPath (λ text. V.ObjectPath text) at v text h
flat_fills e WireType-F.Signature at v text h = omega (arith, ap length h.4)
flat_fills e t at v text h = absurd h

module _ (S : WireType → ℕ → Value → List ℕ → Type 0)
    (fills : (t : WireType) (at : ℕ) (v : Value) (text : List ℕ) → S t at v text → 0 < length text) where
  members_fill : (ts : List WireType) (vs : List Value) (at : ℕ) (text : List ℕ) → 0 < length ts → Members S ts vs at text → 0 < length text
  members_fill [] vs at text lt h = absurd (omega (arith, lt))
  members_fill (t ∷ ts) [] at text lt h = absurd h
  members_fill (t ∷ ts) (v ∷ vs) at text lt h = omega (arith, ap length h.2, length-append h.0 h.1, fills t at v h.0 h.3)

  pub row_fills : (e : Endian) (t : WireType-F WireType) (at : ℕ) (v : Value) (text : List ℕ) → Row S e t at v text → 0 < length text
  row_fills e (WireType-F.Array t) at v text h = let b = h.2 in omega (
    arith,
    ap length h.1,
    length-append (replicate (gap 4 at) 0) h.0,
    ap length b.4,
    number_len e four (length b.1),
    length-append (number e w32 (length b.1)) (replicate (gap (alignment t) (at + gap 4 at + 4)) 0 ++ b.1),
  )
  row_fills e (WireType-F.Struct ts) at v text h = omega (arith, ap length h.1, length-append (replicate (gap 8 at) 0) h.0, members_fill ts h.2.0 (at + gap 8 at) h.0 h.2.2 h.2.3)
  row_fills e (WireType-F.DictEntry t u) at v text h = omega (arith, ap length h.1, length-append (replicate (gap 8 at) 0) h.0, members_fill (t ∷ u ∷ []) (h.2.0 ∷ h.2.1 ∷ []) (at + gap 8 at) h.0 (omega arith) h.2.3)
  row_fills e WireType-F.Variant at v text h = omega (arith, ap length h.5)
  row_fills e t at v text h = flat_fills e t at v text h

pub spells_fills : (n : ℕ) (e : Endian) (t : WireType) (at : ℕ) (v : Value) (text : List ℕ) → SpellsWithin n e t at v text → 0 < length text
unfolding SpellsWithin
spells_fills zero e t at v text h = row_fills NoneInside (λ t at v text h. absurd h) e (out-WireType t) at v text h
spells_fills (suc n) e t at v text h = row_fills (SpellsWithin n e) (spells_fills n e) e (out-WireType t) at v text h

pub reads_again : (n : ℕ) (e : Endian) (t : WireType) (at : ℕ) (v : Value) (text rest : List ℕ) → SpellsWithin n e t at v text → reads (suc n) e t at (text ++ rest) ≡ Ok (v, at + length text, rest)
unfolding reads SpellsWithin
reads_again zero e t at v text rest h = layer_again (reads 0 e) NoneInside (λ t at v text rest h. absurd h) (λ t at v text h. absurd h) e (out-WireType t) at v text rest h
reads_again (suc n) e t at v text rest h = layer_again (reads (suc n) e) (SpellsWithin n e) (reads_again n e) (spells_fills n e) e (out-WireType t) at v text rest h

-- No spelling begins another of the same type at the same offset: both are what is read there.
pub one_spelling : (n : ℕ) (e : Endian) (t : WireType) (at : ℕ) (v w : Value) (a b x y : List ℕ) → SpellsWithin n e t at v a → SpellsWithin n e t at w b → a ++ x ≡ b ++ y → (v ≡ w) × (a ≡ b) × (x ≡ y)
one_spelling n e t at v w a b x y p q same =
    let r : ok v (at + length a) x ≡ ok w (at + length b) y = sym (reads_again n e t at v a x p) ∙ (ap (reads (suc n) e t at) same ∙ reads_again n e t at w b y q) in
    let pair = ok_is (v, at + length a, x) (w, at + length b, y) r in
    let z : x ≡ y = ap (λ (p : Value × ℕ × List ℕ). p.2) pair in
    let u : v ≡ w = ap (λ (p : Value × ℕ × List ℕ). p.0) pair in
    (u, append_cancel_right a b y (ap (λ (k : List ℕ). a ++ k) (sym z) ∙ same), z)
