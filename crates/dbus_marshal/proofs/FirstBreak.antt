-- Reading stops where the bytes go wrong first.
use Rattle.std.proofs.Common.{◌≡◌, ℕ, zero, suc, ◌+◌, ◌<◌, ◌≤◌, Bool, true, false, cond, ltb, List, [], ◌∷◌, ◌++◌, length, Result, Ok, Err, refl, sym, ap, subst, ◌∙◌, append_assoc, arith, inl, inr}
use Rattle.std.specs.Prelude.{◌⊎◌, IfOk}
use Rattle.std.specs.Int.{w16, w32, w64, cast_signed}
use Rattle.std.proofs.lemmas.Result.{IfOk-at_ok}
use Rattle.std.proofs.lemmas.Bool.{ltb-true, ltb-false, lt-ltb, le-ltb}
use Rattle.std.proofs.lemmas.List.{length-append}
use Rattle.dbus_types.specs.declared.types.Endian.{Endian}
use Rattle.dbus_types.specs.declared.types.WireType.{WireType, out-WireType}
use Rattle.dbus_types.specs.declared.types.WireType.TheOpen.{WireType-F}
use Rattle.dbus_types.specs.declared.types.Value.{Value}
use Rattle.dbus_types.specs.declared.types.Value.TheVariants as V
use Rattle.dbus_types.specs.declared.errors.SignatureError.{SignatureError}
use Rattle.dbus_types.specs.declared.errors.SignatureError.TheVariants as Stop
use Rattle.dbus_types.specs.Reading.{whole_at, single_at, passed}
use Rattle.dbus_types.specs.Types.{alignment, type_text, IsVariantType}
use Rattle.dbus_values.specs.Values.{IsText, IsSignatureText, array_of}
use Rattle.dbus_types.proofs.WholeSignatures.{short_reading, stops_no_memory}
use Rattle.dbus_types.proofs.OneTypeRead.{single_reading, single_no_memory}
use Rattle.dbus_types.proofs.OneBreak.{reading_stops, single_stops}
use Rattle.dbus_basic.specs.declared.error.ReadError.{ReadError}
use Rattle.dbus_basic.specs.declared.error.ReadError.TheVariants.{BadBool, BadText, TooLong, BadSignature, TooDeep}
use Rattle.dbus_values.specs.Spells.{IsPath, Elements, NoneInside, SpellsWithin}
use Rattle.dbus_marshal.specs.Breaks.{Break, Never, Ends, Behind, AlignedBreaks, BytesBreak, ZeroBreaks, BoolBreaks, TextBreaks, IsNoSignature, IsNoType, SignatureBreaks, VariantBreaks, MembersBreak, array_error, ElementsBreak, ArrayBreaks, RowBreaks, TooDeepInside, BreaksWithin}
use Rattle.dbus_basic.specs.Reading.{◌>>=◌, Read}
use Rattle.dbus_basic.specs.Fields.{padded, number_at, ended}
use Rattle.dbus_marshal.specs.Reads.{moved, checked_in, type_in, is_text, is_path_text, ended_with, text_at, numbered, texted, signature_with, signature_at, members, joined, elements, listed, within_array, fixed, flat, layer, reads}
use Rattle.dbus_marshal.proofs.TakenFronts.{Wide, two, four, eight, width, size, IsBytes, bytes_after, Took}
use Rattle.dbus_marshal.proofs.AsciiNames.{signature_text}
use Rattle.dbus_marshal.proofs.Words.{text_is, is_text_of, path_is, is_path_of}
use Rattle.dbus_marshal.proofs.Signatures.{types_took, type_took, types_again, type_again}
use Rattle.dbus_marshal.proofs.ReadIsSpelled.{none_took, reads_took}
use Rattle.dbus_marshal.proofs.SpelledIsRead.{reads_again, spells_fills}
use Rattle.dbus_marshal.proofs.StepBreaks.{Exact, not_ok, err_is, through, stop_is, go_is, exact_as, ok_exact, made_exact, aligned_exact, taken_exact, number_only, number_exact, byte_exact, ended_exact, when_exact, unless_exact, truth_exact}

abbrev failed : (A : Type 0) → ReadError → Result A ReadError
failed A e = Err e

fail_exact : {X : Type 0} (e : ReadError) → Exact (failed X e) (λ d. d ≡ e)
fail_exact {X = X} e d = ((λ eq. sym (err_is {A = X} e d eq)), (λ h. ap (failed X) (sym h)))

-- ---- signatures

types_halt : (at : ℕ) (text : List ℕ) → length text ≤ 255 → (d : ReadError) → checked_in at text ≡ Err d → IsNoSignature text at d
unfolding checked_in
types_halt at text short d eq = go (whole_at 32 32 text) refl eq
  where
    go : (r : Result (List WireType) SignatureError) → whole_at 32 32 text ≡ r → moved at (passed r) ≡ Err d → IsNoSignature text at d
    go (Ok ts) is eq = not_ok tt d eq
    go (Err (Stop.BadSignature k)) is eq = inl (k, short_reading text (Err (Stop.BadSignature k)) short is, sym (err_is {A = Unit {0}} (BadSignature (at + k)) d eq))
    go (Err (Stop.TooDeep k)) is eq = inr (k, short_reading text (Err (Stop.TooDeep k)) short is, sym (err_is {A = Unit {0}} (TooDeep (at + k)) d eq))
    go (Err Stop.Memory) is eq = absurd (stops_no_memory text Stop.Memory is refl)

types_back : (at : ℕ) (text : List ℕ) → length text ≤ 255 → (d : ReadError) → IsNoSignature text at d → checked_in at text ≡ Err d
unfolding checked_in
types_back at text short d h = elim h [
  | inl k ↦ ap (λ (r : Result (List WireType) SignatureError). moved at (passed r)) (reading_stops text short (Stop.BadSignature k.0) k.1) ∙ ap (failed (Unit {0})) (sym k.2)
  | inr k ↦ ap (λ (r : Result (List WireType) SignatureError). moved at (passed r)) (reading_stops text short (Stop.TooDeep k.0) k.1) ∙ ap (failed (Unit {0})) (sym k.2)
]

types_exact : {X : Type 0} (at : ℕ) (text : List ℕ) → length text ≤ 255 → (f : Unit {0} → Result X ReadError) (D : ReadError → Type 0) → ((checked : Unit {0}) → IsSignatureText text → Exact (f checked) D)
    → Exact (checked_in at text >>= f) (λ d. IsNoSignature text at d ⊎ (IsSignatureText text × D d))
types_exact at text short f D inner d = (
  through (λ d. IsNoSignature text at d ⊎ (IsSignatureText text × D d)) (checked_in at text) f
      (λ e eq. inl (types_halt at text short e eq))
      (λ checked eq d stop. let is : IsSignatureText text = IfOk-at_ok (λ (u : Unit {0}). IsSignatureText text) eq (types_took at text short) in inr (is, (inner checked is d).0 stop))
      d,
  λ h. elim h [
    | inl z ↦ stop_is (checked_in at text) f d (types_back at text short d z)
    | inr b ↦ go_is (checked_in at text) f tt (Err d) (types_again at text b.0.0 b.0.1) ((inner tt b.0 d).1 b.1)
  ],
)

type_halt : (at : ℕ) (text : List ℕ) (d : ReadError) → type_in at text ≡ Err d → IsNoType text at d
unfolding type_in
type_halt at text d eq = go (single_at 32 32 text) refl eq
  where
    go : (r : Result WireType SignatureError) → single_at 32 32 text ≡ r → moved at r ≡ Err d → IsNoType text at d
    go (Ok t) is eq = not_ok t d eq
    go (Err (Stop.BadSignature k)) is eq = inl (k, single_reading text (Err (Stop.BadSignature k)) is, sym (err_is {A = WireType} (BadSignature (at + k)) d eq))
    go (Err (Stop.TooDeep k)) is eq = inr (k, single_reading text (Err (Stop.TooDeep k)) is, sym (err_is {A = WireType} (TooDeep (at + k)) d eq))
    go (Err Stop.Memory) is eq = absurd (single_no_memory text is)

type_back : (at : ℕ) (text : List ℕ) (d : ReadError) → IsNoType text at d → type_in at text ≡ Err d
unfolding type_in
type_back at text d h = elim h [
  | inl k ↦ ap (moved at) (single_stops text (Stop.BadSignature k.0) k.1) ∙ ap (failed WireType) (sym k.2)
  | inr k ↦ ap (moved at) (single_stops text (Stop.TooDeep k.0) k.1) ∙ ap (failed WireType) (sym k.2)
]

type_exact : {X : Type 0} (at : ℕ) (text : List ℕ) → length text ≤ 255 → (f : WireType → Result X ReadError) (D : WireType → ReadError → Type 0) → ((t : WireType) → IsVariantType t → text ≡ type_text t → Exact (f t) (D t))
    → Exact (type_in at text >>= f) (λ d. IsNoType text at d ⊎ ((t : WireType) × IsVariantType t × (text ≡ type_text t) × D t d))
type_exact at text short f D inner d = (
  through (λ d. IsNoType text at d ⊎ ((t : WireType) × IsVariantType t × (text ≡ type_text t) × D t d)) (type_in at text) f
      (λ e eq. inl (type_halt at text e eq))
      (λ t eq d stop. let is : IsVariantType t × (text ≡ type_text t) = IfOk-at_ok (λ u. IsVariantType u × (text ≡ type_text u)) eq (type_took at text short) in inr (t, is.0, is.1, (inner t is.0 is.1 d).0 stop))
      d,
  λ h. elim h [
    | inl z ↦ stop_is (type_in at text) f d (type_back at text d z)
    | inr b ↦ go_is (type_in at text) f b.0 (Err d) (ap (type_in at) b.2 ∙ type_again at b.0 b.1) ((inner b.0 b.1 b.2 d).1 b.3)
  ],
)

-- ---- values with no other inside

and_then : {A B C : Type 0} (r : Result A ReadError) (f : A → Result B ReadError) (g : B → Result C ReadError) → ((r >>= f) >>= g) ≡ (r >>= λ x. f x >>= g)
and_then (Ok x) f g = refl
and_then (Err e) f g = refl

numbered_exact : (e : Endian) (to : ℕ) (k : Wide) (make : ℕ → Value) (at : ℕ) (bytes : List ℕ) → IsBytes bytes → Exact (numbered e to (width k) make at bytes) (AlignedBreaks to (Ends (size k)) at bytes)
numbered_exact e to k make at bytes fits = subst (λ (r : Read Value). Exact r (AlignedBreaks to (Ends (size k)) at bytes))
    (sym (and_then (padded to at bytes) (λ start. number_at e (width k) start.0 start.1) (λ n. Ok (make n.0, n.1, n.2))))
    (aligned_exact to at bytes (λ start. number_at e (width k) start.0 start.1 >>= λ n. Ok (make n.0, n.1, n.2)) (Ends (size k)) fits (λ start rest fits. number_only e k make start rest fits))

-- the zero byte behind a text
last_exact : {X : Type 0} (other : ReadError) (text : X) (at : ℕ) (bytes : List ℕ) → IsBytes bytes → Exact {X = X × ℕ × List ℕ} (ended other at bytes >>= λ last. Ok (text, last.0, last.1)) (ZeroBreaks other Never at bytes)
last_exact other text at bytes fits = ended_exact other at bytes (λ last. Ok (text, last.0, last.1)) Never fits (λ rest fits. ok_exact (text, at + 1, rest))

text_exact : (e : Endian) (good : List ℕ → Bool) (Good : List ℕ → Type 0) → ((text : List ℕ) → good text ≡ true → Good text) → ((text : List ℕ) → Good text → good text ≡ true) → (at : ℕ) (bytes : List ℕ) → IsBytes bytes
    → Exact (text_at e good at bytes) (TextBreaks e Good at bytes)
unfolding text_at
text_exact e good Good holds back at bytes fits = number_exact e four at bytes _ (λ n. BytesBreak n (λ text at rest d. ((Good text → ⊥) × (d ≡ BadText at)) ⊎ (Good text × ZeroBreaks (BadText (at + length text)) Never (at + length text) rest d))) fits (λ n next rest fits lt.
    taken_exact n next rest _ (λ text at rest d. ((Good text → ⊥) × (d ≡ BadText at)) ⊎ (Good text × ZeroBreaks (BadText (at + length text)) Never (at + length text) rest d)) fits (λ text rest len inside fits.
    unless_exact (good text) (BadText next) (ended_with text (next + n) rest) (Good text) (Good text → ⊥) (λ d. ZeroBreaks (BadText (next + length text)) Never (next + length text) rest d)
    (holds text) (back text) (λ no k. different (good text) (back text k) no) (λ no. none (good text) (λ is. no (holds text is)))
    (λ is. subst (λ (k : ℕ). Exact (ended_with text (next + n) rest) (ZeroBreaks (BadText (next + k)) Never (next + k) rest)) (sym len) (last_exact (BadText (next + n)) text (next + n) rest fits))))
  where
    different : (b : Bool) → b ≡ true → b ≡ false → ⊥
    different b t f = absurd cc

    none : (b : Bool) → (b ≡ true → ⊥) → b ≡ false
    none true h = absurd (h refl)
    none false h = refl

texted_exact : (e : Endian) (good : List ℕ → Bool) (Good : List ℕ → Type 0) → ((text : List ℕ) → good text ≡ true → Good text) → ((text : List ℕ) → Good text → good text ≡ true) → (make : List ℕ → Value) (at : ℕ) (bytes : List ℕ) → IsBytes bytes
    → Exact (texted e good make at bytes) (AlignedBreaks 4 (TextBreaks e Good) at bytes)
texted_exact e good Good holds back make at bytes fits = aligned_exact 4 at bytes (λ start. text_at e good start.0 start.1 >>= λ text. Ok (make text.0, text.1, text.2)) (TextBreaks e Good) fits (λ start rest fits.
    made_exact (text_at e good start rest) (λ text. (make text.0, text.1, text.2)) (TextBreaks e Good start rest) (text_exact e good Good holds back start rest fits))

signature_exact : (at : ℕ) (bytes : List ℕ) → IsBytes bytes → Exact (signature_at at bytes) (SignatureBreaks at bytes)
unfolding signature_at
signature_exact at bytes fits = byte_exact at bytes _ (λ n. BytesBreak n (λ text at rest d. IsNoSignature text at d ⊎ (IsSignatureText text × ZeroBreaks (BadSignature (at + length text)) Never (at + length text) rest d))) fits (λ n rest fits lt.
    taken_exact n (at + 1) rest _ (λ text at rest d. IsNoSignature text at d ⊎ (IsSignatureText text × ZeroBreaks (BadSignature (at + length text)) Never (at + length text) rest d)) fits (λ text rest len inside fits.
    types_exact (at + 1) text (omega (arith, len, lt)) _ (λ d. ZeroBreaks (BadSignature (at + 1 + length text)) Never (at + 1 + length text) rest d) (λ checked is.
    let good : is_text text ≡ true = is_text_of text (signature_text text is) in
    subst (λ (b : Bool). Exact (cond b (signature_with text (at + 1 + n) rest) (failed (List ℕ × ℕ × List ℕ) (BadSignature (at + 1)))) (ZeroBreaks (BadSignature (at + 1 + length text)) Never (at + 1 + length text) rest)) (sym good)
    (subst (λ (k : ℕ). Exact (signature_with text (at + 1 + n) rest) (ZeroBreaks (BadSignature (at + 1 + k)) Never (at + 1 + k) rest)) (sym len) (last_exact (BadSignature (at + 1 + n)) text (at + 1 + n) rest fits)))))

bool_exact : (e : Endian) (at : ℕ) (bytes : List ℕ) → IsBytes bytes → Exact (flat e WireType-F.Bool at bytes) (AlignedBreaks 4 (BoolBreaks e) at bytes)
unfolding flat
bool_exact e at bytes fits = aligned_exact 4 at bytes _ (BoolBreaks e) fits (λ start rest fits. number_exact e four start rest _ (λ n at rest d. (1 < n) × (d ≡ BadBool start)) fits (λ n next rest fits lt.
    truth_exact start n (λ b. (V.Bool b, next, rest))))

-- ---- values with others inside

module _ (r : WireType → ℕ → List ℕ → Read Value) (S : WireType → ℕ → Value → List ℕ → Type 0) (B : WireType → Break)
    (takes : (t : WireType) (at : ℕ) (bytes : List ℕ) → IsBytes bytes → IfOk (r t at bytes) (λ x. Took (S t at x.0) at bytes x.1 x.2))
    (again : (t : WireType) (at : ℕ) (v : Value) (text rest : List ℕ) → S t at v text → r t at (text ++ rest) ≡ Ok (v, at + length text, rest))
    (fills : (t : WireType) (at : ℕ) (v : Value) (text : List ℕ) → S t at v text → 0 < length text)
    (stops : (t : WireType) (at : ℕ) (bytes : List ℕ) → IsBytes bytes → Exact (r t at bytes) (B t at bytes)) where
  -- a value, and then the rest, which is shorter
  value_exact : {X : Type 0} (t : WireType) (at : ℕ) (bytes : List ℕ) (f : Value × ℕ × List ℕ → Result X ReadError) (Rest : Value → Break) → IsBytes bytes
      → ((v : Value) (next : ℕ) (rest : List ℕ) → IsBytes rest → length rest < length bytes → Exact (f (v, next, rest)) (Rest v next rest))
      → Exact (r t at bytes >>= f) (λ d. B t at bytes d ⊎ ((v : Value) × Behind (S t at v) (Rest v) at bytes d))
  value_exact t at bytes f Rest fits inner d = (
    through (λ d. B t at bytes d ⊎ ((v : Value) × Behind (S t at v) (Rest v) at bytes d)) (r t at bytes) f
        (λ e eq. inl ((stops t at bytes fits e).0 eq))
        (λ x eq d stop.
        let k : Took (S t at x.0) at bytes x.1 x.2 = IfOk-at_ok (λ y. Took (S t at y.0) at bytes y.1 y.2) eq (takes t at bytes fits) in
        let less : length x.2 < length bytes = omega (arith, ap length k.parts, length-append k.text x.2, fills t at x.0 k.text k.holds) in
        inr (x.0, (k.text, x.2, k.parts, k.holds, subst (λ (i : ℕ). Rest x.0 i x.2 d) k.place ((inner x.0 x.1 x.2 k.fits less d).0 stop))))
        d,
    λ h. elim h [
      | inl z ↦ stop_is (r t at bytes) f d ((stops t at bytes fits d).1 z)
      | inr b ↦
          let c = b.1 in
          let less : length c.1 < length bytes = omega (arith, ap length c.2, length-append c.0 c.1, fills t at b.0 c.0 c.3) in
          go_is (r t at bytes) f (b.0, at + length c.0, c.1) (Err d) (ap (r t at) c.2 ∙ again t at b.0 c.0 c.1 c.3)
          ((inner b.0 (at + length c.0) c.1 (bytes_after c.0 c.1 (subst IsBytes c.2 fits)) less d).1 c.4)
    ],
  )

  joined_exact : (vs : List Value) (x : Read (List Value)) (D : ReadError → Type 0) → Exact x D → Exact (joined vs x) D
  joined_exact vs (Ok x) D h d = ((λ eq. not_ok (vs ++ x.0, x.1, x.2) d eq), (λ k. not_ok x d ((h d).1 k)))
  joined_exact vs (Err e) D h d = h d

  members_exact : (ts : List WireType) (at : ℕ) (bytes : List ℕ) → IsBytes bytes → Exact (members r ts at bytes) (MembersBreak S B ts at bytes)
  unfolding members
  members_exact [] at bytes fits = ok_exact ([], at, bytes)
  members_exact (t ∷ ts) at bytes fits = value_exact t at bytes (λ x. joined (x.0 ∷ []) (members r ts x.1 x.2)) (λ v. MembersBreak S B ts) fits (λ v next rest fits less.
      joined_exact (v ∷ []) (members r ts next rest) (MembersBreak S B ts next rest) (members_exact ts next rest fits))

  -- some elements are spelled, and the next goes wrong
  abbrev Stopped : WireType → Break
  Stopped t at bytes d = (vs : List Value) × Behind (Elements S t vs at) (λ next rest e. (0 < length rest) × B t next rest e) at bytes d

  listed_exact : (vs : List Value) (x : Result (List Value) ReadError) (D : ReadError → Type 0) → Exact x D → Exact (listed vs x) D
  listed_exact vs (Ok x) D h d = ((λ eq. not_ok (vs ++ x) d eq), (λ k. not_ok x d ((h d).1 k)))
  listed_exact vs (Err e) D h d = h d

  none_stopped : (t : WireType) (at : ℕ) (d : ReadError) → Stopped t at [] d → ⊥
  none_stopped t at d h = let c = h.1 in omega (arith, ap length c.2, length-append c.0 c.1, c.4.0)

  first_stopped : (t : WireType) (at b : ℕ) (bytes : List ℕ) (d : ReadError) → B t at (b ∷ bytes) d ⊎ ((v : Value) × Behind (S t at v) (Stopped t) at (b ∷ bytes) d) → Stopped t at (b ∷ bytes) d
  first_stopped t at b bytes d h = elim h [
    | inl z ↦
        let p : at ≡ at + 0 = omega arith in
        ([], ([], b ∷ bytes, refl, refl, (omega arith, subst (λ (i : ℕ). B t i (b ∷ bytes) d) p z)))
    | inr k ↦
        let c = k.1 in
        let e = c.4 in
        let m = e.1 in
        let place : at + length c.0 + length m.0 ≡ at + length (c.0 ++ m.0) = omega (arith, length-append c.0 m.0) in (
          k.0 ∷ e.0,
          (
            c.0 ++ m.0,
            m.1,
            c.2 ∙ (ap (λ (w : List ℕ). c.0 ++ w) m.2 ∙ sym (append_assoc c.0 m.0 m.1)),
            (c.0, m.0, refl, c.3, m.3),
            (m.4.0, subst (λ (i : ℕ). B t i m.1 d) place m.4.1),
          ),
        )
  ]

  stopped_first : (t : WireType) (at : ℕ) (bytes : List ℕ) (d : ReadError) (vs : List Value) → Behind (Elements S t vs at) (λ next rest e. (0 < length rest) × B t next rest e) at bytes d → B t at bytes d ⊎ ((v : Value) × Behind (S t at v) (Stopped t) at bytes d)
  stopped_first t at bytes d [] h =
      let p : at + length h.0 ≡ at = omega (arith, ap length h.3) in
      let same : h.1 ≡ bytes = sym (h.2 ∙ ap (λ (w : List ℕ). w ++ h.1) h.3) in
      inl (subst (λ (w : List ℕ). B t at w d) same (subst (λ (i : ℕ). B t i h.1 d) p h.4.1))
  stopped_first t at bytes d (v ∷ vs) h =
      let c = h.3 in
      let place : at + length h.0 ≡ at + length c.0 + length c.1 = omega (arith, ap length c.2, length-append c.0 c.1) in
      inr (v, (c.0, c.1 ++ h.1, h.2 ∙ (ap (λ (w : List ℕ). w ++ h.1) c.2 ∙ append_assoc c.0 c.1 h.1), c.3, (vs, (c.1, h.1, refl, c.4, (h.4.0, subst (λ (i : ℕ). B t i h.1 d) place h.4.1)))))

  elements_exact : (n : ℕ) (t : WireType) (at : ℕ) (bytes : List ℕ) → length bytes ≤ n → IsBytes bytes → Exact (elements n (r t) at bytes) (Stopped t at bytes)
  unfolding elements
  elements_exact zero t at [] le fits = λ d. ((λ eq. not_ok [] d eq), (λ h. absurd (none_stopped t at d h)))
  elements_exact (suc n) t at [] le fits = λ d. ((λ eq. not_ok [] d eq), (λ h. absurd (none_stopped t at d h)))
  elements_exact zero t at (b ∷ bytes) le fits = absurd (omega (arith, le))
  elements_exact (suc n) t at (b ∷ bytes) le fits = exact_as (r t at (b ∷ bytes) >>= λ first. listed (first.0 ∷ []) (elements n (r t) first.1 first.2)) (λ d. B t at (b ∷ bytes) d ⊎ ((v : Value) × Behind (S t at v) (Stopped t) at (b ∷ bytes) d)) (Stopped t at (b ∷ bytes))
      (first_stopped t at b bytes)
      (λ d h. stopped_first t at (b ∷ bytes) d h.0 h.1)
      (value_exact t at (b ∷ bytes) (λ first. listed (first.0 ∷ []) (elements n (r t) first.1 first.2)) (λ v. Stopped t) fits (λ v next rest fits less.
      listed_exact (v ∷ []) (elements n (r t) next rest) (Stopped t next rest) (elements_exact n t next rest (omega (arith, le, less)) fits)))

  within_exact : (x : Result (List Value) ReadError) (D : ReadError → Type 0) → Exact x D → Exact (within_array x) (λ d. (e : ReadError) × D e × (d ≡ array_error e))
  within_exact (Ok x) D h d = ((λ eq. not_ok x d eq), (λ k. not_ok x k.0 ((h k.0).1 k.1)))
  within_exact (Err e) D h d = (
    λ eq. (e, (h e).0 refl, sym (err_is {A = List Value} (array_error e) d eq)),
    λ k.
        let same : e ≡ k.0 = err_is {A = List Value} e k.0 ((h k.0).1 k.1) in
        ap (λ (x : ReadError). failed (List Value) (array_error x)) same ∙ ap (failed (List Value)) (sym k.2),
  )

  body_exact : (t : WireType) (at : ℕ) (body : List ℕ) → IsBytes body → Exact (within_array (elements (length body) (r t) at body)) (ElementsBreak S B t at body)
  body_exact t at body fits = exact_as (within_array (elements (length body) (r t) at body)) (λ d. (e : ReadError) × Stopped t at body e × (d ≡ array_error e)) (ElementsBreak S B t at body)
      (λ d h. let c = h.1.1 in (h.1.0, (c.0, c.1, c.2, c.3, (h.0, c.4.0, c.4.1, h.2))))
      (λ d h. let c = h.1 in (c.4.0, (h.0, (c.0, c.1, c.2, c.3, (c.4.1, c.4.2))), c.4.3))
      (within_exact (elements (length body) (r t) at body) (Stopped t at body) (elements_exact (length body) t at body (omega arith) fits))

  array_exact : (e : Endian) (t : WireType) (at : ℕ) (bytes : List ℕ) → IsBytes bytes → Exact (layer r e (WireType-F.Array t) at bytes) (AlignedBreaks 4 (ArrayBreaks S B e t) at bytes)
  unfolding layer
  array_exact e t at bytes fits = aligned_exact 4 at bytes _ (ArrayBreaks S B e t) fits (λ start rest fits.
      number_exact e four start rest _ (λ n at rest d. ((67_108_864 < n) × (d ≡ TooLong start)) ⊎ ((n ≤ 67_108_864) × AlignedBreaks (alignment t) (BytesBreak n (λ body at rest d. ElementsBreak S B t at body d)) at rest d)) fits (λ n next rest fits lt.
      when_exact (ltb 67_108_864 n) (TooLong start) _ (67_108_864 < n) (n ≤ 67_108_864) (λ d. AlignedBreaks (alignment t) (BytesBreak n (λ body at rest d. ElementsBreak S B t at body d)) next rest d)
      (ltb-true 67_108_864 n) (lt-ltb 67_108_864 n) (ltb-false 67_108_864 n) (le-ltb 67_108_864 n)
      (λ short. aligned_exact (alignment t) next rest _ (BytesBreak n (λ body at rest d. ElementsBreak S B t at body d)) fits (λ from rest fits.
      taken_exact n from rest _ (λ body at rest d. ElementsBreak S B t at body d) fits (λ body rest len inside fits.
      made_exact (within_array (elements (length body) (r t) from body)) (λ vs. (array_of t vs, from + n, rest)) (ElementsBreak S B t from body) (body_exact t from body inside))))))

  struct_exact : (e : Endian) (t : WireType) (ts : List WireType) (at : ℕ) (bytes : List ℕ) → IsBytes bytes → Exact (layer r e (WireType-F.Struct (t ∷ ts)) at bytes) (AlignedBreaks 8 (MembersBreak S B (t ∷ ts)) at bytes)
  unfolding layer
  struct_exact e t ts at bytes fits = aligned_exact 8 at bytes _ (MembersBreak S B (t ∷ ts)) fits (λ start rest fits.
      made_exact (members r (t ∷ ts) start rest) (λ vs. (V.Struct vs.0, vs.1, vs.2)) (MembersBreak S B (t ∷ ts) start rest) (members_exact (t ∷ ts) start rest fits))

  entry_exact : (e : Endian) (t u : WireType) (at : ℕ) (bytes : List ℕ) → IsBytes bytes → Exact (layer r e (WireType-F.DictEntry t u) at bytes) (AlignedBreaks 8 (MembersBreak S B (t ∷ u ∷ [])) at bytes)
  unfolding layer
  entry_exact e t u at bytes fits = aligned_exact 8 at bytes _ (MembersBreak S B (t ∷ u ∷ [])) fits (λ start rest fits.
      value_exact t start rest _ (λ k. MembersBreak S B (u ∷ [])) fits (λ k next rest fits less.
      exact_as (r u next rest >>= λ x. Ok (V.DictEntry k x.0, x.1, x.2)) (B u next rest) (MembersBreak S B (u ∷ []) next rest)
      (λ d z. inl z)
      (λ d h. elim h [ inl z ↦ z | inr b ↦ absurd b.1.4 ])
      (made_exact (r u next rest) (λ x. (V.DictEntry k x.0, x.1, x.2)) (B u next rest) (stops u next rest fits))))

  variant_exact : (e : Endian) (at : ℕ) (bytes : List ℕ) → IsBytes bytes → Exact (layer r e WireType-F.Variant at bytes) (VariantBreaks B at bytes)
  unfolding layer
  variant_exact e at bytes fits = byte_exact at bytes _ (λ n. BytesBreak n (λ text at rest d. IsNoType text at d
      ⊎ ((t : WireType) × IsVariantType t × (text ≡ type_text t) × ZeroBreaks (BadSignature (at + length text)) (B t) (at + length text) rest d))) fits (λ n rest fits lt.
      taken_exact n (at + 1) rest _ (λ text at rest d. IsNoType text at d ⊎ ((t : WireType) × IsVariantType t × (text ≡ type_text t) × ZeroBreaks (BadSignature (at + length text)) (B t) (at + length text) rest d)) fits (λ text rest len inside fits.
      type_exact (at + 1) text (omega (arith, len, lt)) _ (λ t d. ZeroBreaks (BadSignature (at + 1 + length text)) (B t) (at + 1 + length text) rest d) (λ t is same.
      let last : ℕ × List ℕ → Read Value = λ last. r t last.0 last.1 >>= λ x. Ok (V.Variant x.0, x.1, x.2) in
      subst (λ (k : ℕ). Exact (ended (BadSignature (at + 1 + n)) (at + 1 + n) rest >>= last) (ZeroBreaks (BadSignature (at + 1 + k)) (B t) (at + 1 + k) rest)) (sym len)
      (ended_exact (BadSignature (at + 1 + n)) (at + 1 + n) rest last (B t) fits (λ rest fits.
      made_exact (r t (at + 1 + n + 1) rest) (λ x. (V.Variant x.0, x.1, x.2)) (B t (at + 1 + n + 1) rest) (stops t (at + 1 + n + 1) rest fits))))))

  layer_exact : (e : Endian) (t : WireType-F WireType) (at : ℕ) (bytes : List ℕ) → IsBytes bytes → Exact (layer r e t at bytes) (RowBreaks S B e t at bytes)
  unfolding layer flat fixed
  layer_exact e WireType-F.Byte at bytes fits = exact_as _ _ (Ends 1 at bytes) (λ d h. elim h [ inl z ↦ z | inr b ↦ absurd b.3 ]) (λ d h. inl h)
      (byte_exact at bytes (λ b. Ok (V.Byte b.0, b.1, b.2)) (λ b. Never) fits (λ b rest fits lt. ok_exact (V.Byte b, at + 1, rest)))
  layer_exact e WireType-F.Bool at bytes fits = bool_exact e at bytes fits
  layer_exact e WireType-F.I16 at bytes fits = numbered_exact e 2 two (λ n. V.I16 (cast_signed w16 n)) at bytes fits
  layer_exact e WireType-F.U16 at bytes fits = numbered_exact e 2 two (λ n. V.U16 n) at bytes fits
  layer_exact e WireType-F.I32 at bytes fits = numbered_exact e 4 four (λ n. V.I32 (cast_signed w32 n)) at bytes fits
  layer_exact e WireType-F.U32 at bytes fits = numbered_exact e 4 four (λ n. V.U32 n) at bytes fits
  layer_exact e WireType-F.I64 at bytes fits = numbered_exact e 8 eight (λ n. V.I64 (cast_signed w64 n)) at bytes fits
  layer_exact e WireType-F.U64 at bytes fits = numbered_exact e 8 eight (λ n. V.U64 n) at bytes fits
  layer_exact e WireType-F.Double at bytes fits = numbered_exact e 8 eight (λ n. V.Double n) at bytes fits
  layer_exact e WireType-F.Handle at bytes fits = numbered_exact e 4 four (λ n. V.Handle n) at bytes fits
  layer_exact e WireType-F.Str at bytes fits = texted_exact e is_text IsText text_is is_text_of (λ text. V.Str text) at bytes fits
  layer_exact e WireType-F.ObjectPath at bytes fits = texted_exact e is_path_text IsPath path_is is_path_of (λ text. V.ObjectPath text) at bytes fits
  layer_exact e WireType-F.Signature at bytes fits = made_exact (signature_at at bytes) (λ text. (V.Signature text.0, text.1, text.2)) (SignatureBreaks at bytes) (signature_exact at bytes fits)
  layer_exact e WireType-F.Variant at bytes fits = variant_exact e at bytes fits
  layer_exact e (WireType-F.Array t) at bytes fits = array_exact e t at bytes fits
  layer_exact e (WireType-F.Struct []) at bytes fits = fail_exact (BadSignature at)
  layer_exact e (WireType-F.Struct (t ∷ ts)) at bytes fits = struct_exact e t ts at bytes fits
  layer_exact e (WireType-F.DictEntry t u) at bytes fits = entry_exact e t u at bytes fits

-- ---- values

too_deep : (e : Endian) (t : WireType) (at : ℕ) (bytes : List ℕ) → Exact (reads 0 e t at bytes) (TooDeepInside t at bytes)
unfolding reads
too_deep e t at bytes = fail_exact (TooDeep at)

pub reads_exact : (n : ℕ) (e : Endian) (t : WireType) (at : ℕ) (bytes : List ℕ) → IsBytes bytes → Exact (reads (suc n) e t at bytes) (BreaksWithin n e t at bytes)
unfolding reads BreaksWithin
reads_exact zero e t at bytes fits = layer_exact (reads 0 e) NoneInside TooDeepInside (λ t at bytes fits. none_took e t at bytes) (λ t at v text rest h. absurd h) (λ t at v text h. absurd h) (λ t at bytes fits. too_deep e t at bytes) e (out-WireType t) at bytes fits
reads_exact (suc n) e t at bytes fits = layer_exact (reads (suc n) e) (SpellsWithin n e) (BreaksWithin n e) (reads_took n e) (reads_again n e) (spells_fills n e) (reads_exact n e) e (out-WireType t) at bytes fits
