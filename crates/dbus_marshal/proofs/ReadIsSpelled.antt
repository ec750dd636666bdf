-- What is read is spelled so.
use Rattle.std.proofs.Common.{◌≡◌, ℕ, zero, suc, ◌+◌, ◌^◌, ◌<◌, Bool, true, ltb, List, [], ◌∷◌, ◌++◌, length, replicate, Result, Ok, Err, refl, sym, ap, subst, ◌∙◌, append_assoc, append-nil, arith}
use Rattle.std.specs.Prelude.{IfOk}
use Rattle.std.specs.Int.{w16, w32, w64, cast_signed}
use Rattle.std.proofs.lemmas.Result.{IfOk-weaker}
use Rattle.std.proofs.lemmas.Bool.{ltb-false}
use Rattle.std.proofs.lemmas.List.{length-append, length-replicate}
use Rattle.dbus_types.specs.declared.types.Endian.{Endian}
use Rattle.dbus_types.specs.declared.types.WireType.{WireType, out-WireType}
use Rattle.dbus_types.specs.declared.types.WireType.TheOpen.{WireType-F}
use Rattle.dbus_types.specs.declared.types.Value.{Value}
use Rattle.dbus_types.specs.declared.types.Value.TheVariants as V
use Rattle.dbus_basic.specs.declared.error.ReadError.{ReadError}
use Rattle.dbus_basic.specs.declared.error.ReadError.TheVariants.{BadText, TooLong, BadSignature}
use Rattle.dbus_types.specs.Types.{alignment}
use Rattle.dbus_values.specs.Values.{IsText, IsSignatureText, array_of}
use Rattle.dbus_values.specs.Spells.{number, gap, Aligned, IsPath, bit, Members, Elements, BoolRow, NumberRow, TextRow, ArrayRow, StructRow, EntryRow, Flat, Row, NoneInside, SpellsWithin}
use Rattle.dbus_basic.specs.Reading.{◌>>=◌, Read}
use Rattle.dbus_basic.specs.Fields.{padded, taken, number_at, byte_at, ended, truth}
use Rattle.dbus_marshal.specs.Reads.{numbered, is_text, is_path_text, text_at, texted, checked_in, type_in, signature_at, joined, members, listed, elements, within_array, fixed, flat, layer, reads}
use Rattle.dbus_marshal.proofs.Signatures.{types_took, type_took}
use Rattle.dbus_marshal.proofs.Words.{text_is, path_is}
use Rattle.dbus_marshal.proofs.TakenFronts.{Wide, two, four, eight, width, IsBytes, bytes_before, Took, took, Then, took_then, took_as, number_len, bind, guard, guard_then, zeros_took, taken_took, byte_took, ended_took, number_took}

-- a body behind padding
aligned_took : {X : Type 0} (to at : ℕ) (bytes : List ℕ) (Body : X → ℕ → List ℕ → Type 0) (f : ℕ × List ℕ → Read X) → IsBytes bytes
    → ((start : ℕ) (rest : List ℕ) → IsBytes rest → IfOk (f (start, rest)) (λ x. Took (Body x.0 start) start rest x.1 x.2))
    → IfOk (padded to at bytes >>= f) (λ x. Took (Aligned to at (Body x.0)) at bytes x.1 x.2)
aligned_took to at bytes Body f fits h = bind _ _ (padded to at bytes) f (zeros_took (gap to at) at bytes fits) (λ p t.
    IfOk-weaker (f p) _ _ (λ x b. record {
      text = t.text ++ b.text;
      parts = t.parts ∙ (ap (λ (y : List ℕ). t.text ++ y) b.parts ∙ sym (append_assoc t.text b.text x.2));
      place = omega (arith, t.place, b.place, length-append t.text b.text);
      holds = (b.text, ap (λ (y : List ℕ). y ++ b.text) t.holds, subst (λ (k : ℕ). Body x.0 k b.text) (starts t.text p.0 t.place t.holds) b.holds);
      fits = b.fits;
    }) (h p.0 p.1 t.fits))
  where
    starts : (text : List ℕ) (next : ℕ) → next ≡ at + length text → text ≡ replicate (gap to at) 0 → next ≡ at + gap to at
    starts text next place e = omega (arith, place, ap length e, length-replicate {A = ℕ} (gap to at) 0)

truth_is : (at n : ℕ) → IfOk (truth at n) (λ b. n ≡ bit b)
unfolding truth
truth_is at zero = refl
truth_is at (suc zero) = refl
truth_is at (suc (suc n)) = tt

and_then : {A B C : Type 0} (r : Result A ReadError) (f : A → Result B ReadError) (g : B → Result C ReadError) → ((r >>= f) >>= g) ≡ (r >>= λ x. f x >>= g)
and_then (Ok x) f g = refl
and_then (Err e) f g = refl

text_took : (e : Endian) (good : List ℕ → Bool) (Good : List ℕ → Type 0) → ((text : List ℕ) → good text ≡ true → Good text) → (at : ℕ) (bytes : List ℕ) → IsBytes bytes
    → IfOk (text_at e good at bytes) (λ x. Took (λ text. Good x.0 × (length x.0 < 2 ^ 32) × (text ≡ number e w32 (length x.0) ++ (x.0 ++ 0 ∷ []))) at bytes x.1 x.2)
unfolding text_at
text_took e good Good holds at bytes fits = bind _ _ (number_at e w32 at bytes) _ (number_took e four at bytes fits) (λ n a.
    bind _ _ (taken n.0 n.1 n.2) _ (taken_took n.0 n.1 n.2 a.fits) (λ text b.
    guard_then _ (good text.0) (BadText n.1) _ (λ is.
    bind _ _ (ended (BadText text.1) text.1 text.2) _ (ended_took (BadText text.1) text.1 text.2 b.fits) (λ last c.
    let len : length text.0 ≡ n.0 = sym (ap length b.holds.0) ∙ b.holds.1 in
    let end = took_then (λ (w : List ℕ). (w ≡ text.0) × (length w ≡ n.0)) (λ _ w. w ≡ 0 ∷ []) n.1 n.2 text.1 text.2 last.0 last.1 b c in
    let all = took_then _ (λ _ w. Then n.1 (λ (w : List ℕ). (w ≡ text.0) × (length w ≡ n.0)) (λ _ w. w ≡ 0 ∷ []) w) at bytes n.1 n.2 last.0 last.1 a end in
    took_as _ (λ (whole : List ℕ). Good text.0 × (length text.0 < 2 ^ 32) × (whole ≡ number e w32 (length text.0) ++ (text.0 ++ 0 ∷ []))) at bytes last.0 last.1 all
    (λ whole h. (holds text.0 is, rw len h.3.1, h.2 ∙ rw (len, h.3.0, h.4.2, h.4.3.0, h.4.4) refl))))))

numbered_took : (e : Endian) (to : ℕ) (k : Wide) (make : ℕ → Value) (at : ℕ) (bytes : List ℕ) → IsBytes bytes
    → IfOk (numbered e to (width k) make at bytes) (λ x. Took (Aligned to at (NumberRow e (width k) make x.0)) at bytes x.1 x.2)
numbered_took e to k make at bytes fits = subst (λ (r : Read Value). IfOk r (λ x. Took (Aligned to at (NumberRow e (width k) make x.0)) at bytes x.1 x.2))
    (sym (and_then (padded to at bytes) (λ start. number_at e (width k) start.0 start.1) (λ n. Ok (make n.0, n.1, n.2))))
    (aligned_took to at bytes (NumberRow e (width k) make) (λ start. number_at e (width k) start.0 start.1 >>= λ n. Ok (make n.0, n.1, n.2)) fits (λ start rest fits.
    bind _ _ (number_at e (width k) start rest) _ (number_took e k start rest fits) (λ n a.
    took_as _ (NumberRow e (width k) make (make n.0) start) start rest n.1 n.2 a (λ text h. (n.0, refl, h.1, h.0)))))

texted_took : (e : Endian) (good : List ℕ → Bool) (Good : List ℕ → Type 0) → ((text : List ℕ) → good text ≡ true → Good text) → (make : List ℕ → Value) (at : ℕ) (bytes : List ℕ) → IsBytes bytes
    → IfOk (texted e good make at bytes) (λ x. Took (Aligned 4 at (TextRow e Good make x.0)) at bytes x.1 x.2)
texted_took e good Good holds make at bytes fits = aligned_took 4 at bytes (TextRow e Good make) (λ start. text_at e good start.0 start.1 >>= λ text. Ok (make text.0, text.1, text.2)) fits (λ start rest fits.
    bind _ _ (text_at e good start rest) _ (text_took e good Good holds start rest fits) (λ s a.
    took_as _ (TextRow e Good make (make s.0) start) start rest s.1 s.2 a (λ text h. (s.0, refl, h.0, h.1, h.2))))

signature_took : (at : ℕ) (bytes : List ℕ) → IsBytes bytes → IfOk (signature_at at bytes) (λ x. Took (λ text. IsText x.0 × IsSignatureText x.0 × (text ≡ length x.0 ∷ (x.0 ++ 0 ∷ []))) at bytes x.1 x.2)
unfolding signature_at
signature_took at bytes fits =
    bind _ _ (byte_at at bytes) _ (byte_took at bytes fits) (λ n a.
    bind _ _ (taken n.0 n.1 n.2) _ (taken_took n.0 n.1 n.2 a.fits) (λ text b.
    let len : length text.0 ≡ n.0 = sym (ap length b.holds.0) ∙ b.holds.1 in
    bind _ _ (checked_in n.1 text.0) _ (types_took n.1 text.0 (omega (arith, len, a.holds.1))) (λ checked is.
    guard_then _ (is_text text.0) (BadSignature n.1) _ (λ good.
    bind _ _ (ended (BadSignature text.1) text.1 text.2) _ (ended_took (BadSignature text.1) text.1 text.2 b.fits) (λ last c.
    record {
      text = length text.0 ∷ (text.0 ++ 0 ∷ []);
      parts = a.parts ∙ rw (a.holds.0, b.parts, b.holds.0, c.parts, c.holds, len) (ap (λ (w : List ℕ). n.0 ∷ w) (sym (append_assoc text.0 (0 ∷ []) last.1)));
      place = omega (arith, a.place, ap length a.holds.0, b.place, b.holds.1, c.place, ap length c.holds, len, length-append text.0 (0 ∷ []));
      holds = (text_is text.0 good, is, refl);
      fits = c.fits;
    })))))

flat_took : (e : Endian) (t : WireType-F WireType) (at : ℕ) (bytes : List ℕ) → IsBytes bytes → IfOk (flat e t at bytes) (λ x. Took (Flat e t at x.0) at bytes x.1 x.2)
unfolding flat fixed
flat_took e WireType-F.Byte at bytes fits = bind _ _ (byte_at at bytes) _ (byte_took at bytes fits) (λ x t. took_as _ (Flat e WireType-F.Byte at (V.Byte x.0)) at bytes x.1 x.2 t (λ text h. (x.0, refl, h.1, h.0)))
flat_took e WireType-F.Bool at bytes fits = aligned_took 4 at bytes (BoolRow e) _ fits (λ start rest fits. bind _ _ (number_at e w32 start rest) _ (number_took e four start rest fits) (λ n a.
    bind _ _ (truth start n.0) _ (truth_is start n.0) (λ b is. took_as _ (BoolRow e (V.Bool b) start) start rest n.1 n.2 a (λ text h. (b, refl, h.0 ∙ ap (number e w32) is)))))
flat_took e WireType-F.I16 at bytes fits = numbered_took e 2 two (λ n. V.I16 (cast_signed w16 n)) at bytes fits
flat_took e WireType-F.U16 at bytes fits = numbered_took e 2 two (λ n. V.U16 n) at bytes fits
flat_took e WireType-F.I32 at bytes fits = numbered_took e 4 four (λ n. V.I32 (cast_signed w32 n)) at bytes fits
flat_took e WireType-F.U32 at bytes fits = numbered_took e 4 four (λ n. V.U32 n) at bytes fits
flat_took e WireType-F.I64 at bytes fits = numbered_took e 8 eight (λ n. V.I64 (cast_signed w64 n)) at bytes fits
flat_took e WireType-F.U64 at bytes fits = numbered_took e 8 eight (λ n. V.U64 n) at bytes fits
flat_took e WireType-F.Double at bytes fits = numbered_took e 8 eight (λ n. V.Double n) at bytes fits
flat_took e WireType-F.Handle at bytes fits = numbered_took e 4 four (λ n. V.Handle n) at bytes fits
flat_took e WireType-F.Str at bytes fits = texted_took e is_text IsText text_is (λ text. V.Str text) at bytes fits
flat_took e WireType-F.ObjectPath at bytes fits = texted_took e is_path_text IsPath path_is (λ text. V.ObjectPath text) at bytes fits
flat_took e WireType-F.Signature at bytes fits = bind _ _ (signature_at at bytes) _ (signature_took at bytes fits) (λ s a. took_as _ (Flat e WireType-F.Signature at (V.Signature s.0)) at bytes s.1 s.2 a (λ text h. (s.0, refl, h.0, h.1, h.2)))
flat_took e _ at bytes fits = tt

module _ (r : WireType → ℕ → List ℕ → Read Value) (S : WireType → ℕ → Value → List ℕ → Type 0) (inner : (t : WireType) (at : ℕ) (bytes : List ℕ) → IsBytes bytes → IfOk (r t at bytes) (λ x. Took (S t at x.0) at bytes x.1 x.2)) where
  joined_took : (v : Value) (read : Read (List Value)) (P : List Value → ℕ → List ℕ → Type 0) → IfOk read (λ x. P (v ∷ x.0) x.1 x.2) → IfOk (joined (v ∷ []) read) (λ x. P x.0 x.1 x.2)
  joined_took v (Ok x) P h = h
  joined_took v (Err e) P h = tt

  members_took : (ts : List WireType) (at : ℕ) (bytes : List ℕ) → IsBytes bytes → IfOk (members r ts at bytes) (λ x. Took (Members S ts x.0 at) at bytes x.1 x.2)
  unfolding members
  members_took [] at bytes fits = took _ at bytes [] bytes at fits refl (omega arith) refl
  members_took (t ∷ ts) at bytes fits = bind _ _ (r t at bytes) _ (inner t at bytes fits) (λ x a.
      joined_took x.0 (members r ts x.1 x.2) (λ vs next rest. Took (Members S (t ∷ ts) vs at) at bytes next rest)
      (IfOk-weaker (members r ts x.1 x.2) _ _ (λ y b. took_as _ (Members S (t ∷ ts) (x.0 ∷ y.0) at) at bytes y.1 y.2 (took_then _ (Members S ts y.0) at bytes x.1 x.2 y.1 y.2 a b)
      (λ text h. h)) (members_took ts x.1 x.2 a.fits)))

  listed_took : (v : Value) (read : Result (List Value) ReadError) (P : List Value → Type 0) → IfOk read (λ vs. P (v ∷ vs)) → IfOk (listed (v ∷ []) read) P
  listed_took v (Ok x) P h = h
  listed_took v (Err e) P h = tt

  elements_took : (n : ℕ) (t : WireType) (at : ℕ) (bytes : List ℕ) → IsBytes bytes → IfOk (elements n (r t) at bytes) (λ vs. Elements S t vs at bytes)
  unfolding elements
  elements_took zero t at [] fits = refl
  elements_took (suc n) t at [] fits = refl
  elements_took zero t at (b ∷ bytes) fits = tt
  elements_took (suc n) t at (b ∷ bytes) fits = bind _ _ (r t at (b ∷ bytes)) _ (inner t at (b ∷ bytes) fits) (λ x a.
      listed_took x.0 (elements n (r t) x.1 x.2) (λ vs. Elements S t vs at (b ∷ bytes))
      (IfOk-weaker (elements n (r t) x.1 x.2) _ _ (λ vs h. (a.text, x.2, a.parts, a.holds, subst (λ (k : ℕ). Elements S t vs k x.2) a.place h)) (elements_took n t x.1 x.2 a.fits)))

  within_took : (P : List Value → Type 0) (read : Result (List Value) ReadError) → IfOk read P → IfOk (within_array read) P
  within_took P (Ok x) h = h
  within_took P (Err e) h = tt

  array_took : (e : Endian) (t : WireType) (at : ℕ) (bytes : List ℕ) → IsBytes bytes → IfOk (layer r e (WireType-F.Array t) at bytes) (λ x. Took (Row S e (WireType-F.Array t) at x.0) at bytes x.1 x.2)
  unfolding layer
  array_took e t at bytes fits = aligned_took 4 at bytes (ArrayRow S e t) _ fits (λ start rest fits.
      bind _ _ (number_at e w32 start rest) _ (number_took e four start rest fits) (λ n a.
      guard _ (ltb 67_108_864 n.0) (TooLong start) _ (λ short.
      bind _ _ (padded (alignment t) n.1 n.2) _ (zeros_took (gap (alignment t) n.1) n.1 n.2 a.fits) (λ from p.
      bind _ _ (taken n.0 from.0 from.1) _ (taken_took n.0 from.0 from.1 p.fits) (λ body b.
      let inside : IsBytes body.0 = subst IsBytes b.holds.0 (bytes_before b.text body.2 (subst IsBytes b.parts p.fits)) in
      bind _ _ (within_array (elements (length body.0) (r t) from.0 body.0)) _ (within_took (λ vs. Elements S t vs from.0 body.0) (elements (length body.0) (r t) from.0 body.0) (elements_took (length body.0) t from.0 body.0 inside)) (λ vs els.
      let len : length body.0 ≡ n.0 = sym (ap length b.holds.0) ∙ b.holds.1 in
      let four : n.1 ≡ start + 4 = omega (arith, a.place, ap length a.holds.0, number_len e four n.0) in
      let begins : from.0 ≡ start + 4 + gap (alignment t) (start + 4) = subst (λ (k : ℕ). from.0 ≡ k + gap (alignment t) k) four (omega (arith, p.place, ap length p.holds, length-replicate {A = ℕ} (gap (alignment t) n.1) 0)) in
      let end = took_then (λ (w : List ℕ). w ≡ replicate (gap (alignment t) n.1) 0) (λ _ (w : List ℕ). (w ≡ body.0) × (length w ≡ n.0)) n.1 n.2 from.0 from.1 body.1 body.2 p b in
      let all = took_then (λ (w : List ℕ). (w ≡ number e w32 n.0) × (n.0 < 2 ^ 32)) (λ k (w : List ℕ). Then n.1 (λ (w : List ℕ). w ≡ replicate (gap (alignment t) n.1) 0) (λ _ (w : List ℕ). (w ≡ body.0) × (length w ≡ n.0)) w) start rest n.1 n.2 body.1 body.2 a end in
      took_as _ (ArrayRow S e t (array_of t vs) start) start rest body.1 body.2 all (λ whole h. (
        vs,
        body.0,
        refl,
        omega (arith, ltb-false _ _ short, len),
        h.2 ∙ rw (len, ← four, h.3.0, h.4.2, h.4.3, h.4.4.0) refl,
        subst (λ (k : ℕ). Elements S t vs k body.0) begins els,
      ))))))))

  struct_took : (e : Endian) (ts : List WireType) (at : ℕ) (bytes : List ℕ) → IsBytes bytes → IfOk (layer r e (WireType-F.Struct ts) at bytes) (λ x. Took (Row S e (WireType-F.Struct ts) at x.0) at bytes x.1 x.2)
  unfolding layer
  struct_took e [] at bytes fits = tt
  struct_took e (t ∷ ts) at bytes fits = aligned_took 8 at bytes (StructRow S (t ∷ ts)) _ fits (λ start rest fits.
      bind _ _ (members r (t ∷ ts) start rest) _ (members_took (t ∷ ts) start rest fits) (λ vs a.
      took_as _ (StructRow S (t ∷ ts) (V.Struct vs.0) start) start rest vs.1 vs.2 a (λ whole h. (vs.0, refl, omega arith, h))))

  entry_took : (e : Endian) (t u : WireType) (at : ℕ) (bytes : List ℕ) → IsBytes bytes → IfOk (layer r e (WireType-F.DictEntry t u) at bytes) (λ x. Took (Row S e (WireType-F.DictEntry t u) at x.0) at bytes x.1 x.2)
  unfolding layer
  entry_took e t u at bytes fits = aligned_took 8 at bytes (EntryRow S t u) _ fits (λ start rest fits.
      bind _ _ (r t start rest) _ (inner t start rest fits) (λ k a.
      bind _ _ (r u k.1 k.2) _ (inner u k.1 k.2 a.fits) (λ x b.
      took_as _ (EntryRow S t u (V.DictEntry k.0 x.0) start) start rest x.1 x.2 (took_then (S t start k.0) (λ i. S u i x.0) start rest k.1 k.2 x.1 x.2 a b)
      (λ whole h. (k.0, x.0, refl, (h.0, h.1, h.2, h.3, (h.1, [], sym (append-nil h.1), h.4, refl)))))))

  variant_took : (e : Endian) (at : ℕ) (bytes : List ℕ) → IsBytes bytes → IfOk (layer r e WireType-F.Variant at bytes) (λ x. Took (Row S e WireType-F.Variant at x.0) at bytes x.1 x.2)
  unfolding layer
  variant_took e at bytes fits =
      bind _ _ (byte_at at bytes) _ (byte_took at bytes fits) (λ n a.
      bind _ _ (taken n.0 n.1 n.2) _ (taken_took n.0 n.1 n.2 a.fits) (λ text b.
      let len : length text.0 ≡ n.0 = sym (ap length b.holds.0) ∙ b.holds.1 in
      bind _ _ (type_in n.1 text.0) _ (type_took n.1 text.0 (omega (arith, len, a.holds.1))) (λ t is.
      bind _ _ (ended (BadSignature text.1) text.1 text.2) _ (ended_took (BadSignature text.1) text.1 text.2 b.fits) (λ last c.
      bind _ _ (r t last.0 last.1) _ (inner t last.0 last.1 c.fits) (λ x d.
      let begins : last.0 ≡ at + (1 + length text.0 + 1) = omega (arith, a.place, ap length a.holds.0, b.place, b.holds.1, c.place, ap length c.holds, len) in
      record {
        text = length text.0 ∷ (text.0 ++ 0 ∷ d.text);
        parts = a.parts ∙ rw (a.holds.0, b.parts, b.holds.0, c.parts, c.holds, d.parts, len) (ap (λ (w : List ℕ). n.0 ∷ w) (sym (append_assoc text.0 (0 ∷ d.text) x.2)));
        place = omega (arith, begins, d.place, length-append text.0 (0 ∷ d.text));
        holds = (t, x.0, d.text, refl, is.0, ap (λ (w : List ℕ). length w ∷ (w ++ 0 ∷ d.text)) is.1, subst (λ (k : ℕ). S t k x.0 d.text) (begins ∙ ap (λ (w : List ℕ). at + (1 + length w + 1)) is.1) d.holds);
        fits = d.fits;
      })))))

  pub layer_took : (e : Endian) (t : WireType-F WireType) (at : ℕ) (bytes : List ℕ) → IsBytes bytes → IfOk (layer r e t at bytes) (λ x. Took (Row S e t at x.0) at bytes x.1 x.2)
  unfolding layer
  layer_took e (WireType-F.Array t) at bytes fits = array_took e t at bytes fits
  layer_took e (WireType-F.Struct ts) at bytes fits = struct_took e ts at bytes fits
  layer_took e (WireType-F.DictEntry t u) at bytes fits = entry_took e t u at bytes fits
  layer_took e WireType-F.Variant at bytes fits = variant_took e at bytes fits
  layer_took e t at bytes fits = flat_took e t at bytes fits

pub none_took : (e : Endian) (t : WireType) (at : ℕ) (bytes : List ℕ) → IfOk (reads 0 e t at bytes) (λ x. Took (NoneInside t at x.0) at bytes x.1 x.2)
unfolding reads
none_took e t at bytes = tt

pub reads_took : (n : ℕ) (e : Endian) (t : WireType) (at : ℕ) (bytes : List ℕ) → IsBytes bytes → IfOk (reads (suc n) e t at bytes) (λ x. Took (SpellsWithin n e t at x.0) at bytes x.1 x.2)
unfolding reads SpellsWithin
reads_took zero e t at bytes fits = layer_took (reads 0 e) NoneInside (λ t at bytes fits. none_took e t at bytes) e (out-WireType t) at bytes fits
reads_took (suc n) e t at bytes fits = layer_took (reads (suc n) e) (SpellsWithin n e) (reads_took n e) e (out-WireType t) at bytes fits
