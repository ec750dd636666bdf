-- A text goes wrong at one place, and there the reading stops.
use Rattle.std.proofs.Common.{◌≡◌, ℕ, ◌+◌, ◌<◌, ◌≤◌, List, ◌++◌, length, take, drop, Result, Ok, Err, refl, sym, ap, subst, ◌∙◌, append_assoc, arith, inl, inr}
use Rattle.std.proofs.lemmas.Bool.{cases_lt}
use Rattle.std.proofs.lemmas.List.{take-append-drop, take-append-le, length-take}
use Rattle.dbus_types.specs.declared.types.WireType.{WireType}
use Rattle.dbus_types.specs.declared.errors.SignatureError.{SignatureError}
use Rattle.dbus_types.specs.declared.errors.SignatureError.TheVariants.{BadSignature, TooDeep, Memory}
use Rattle.dbus_types.specs.Types.{type_text, IsComplete, IsValidType}
use Rattle.dbus_types.specs.Reading.{Gives, Tells, whole_at, single_at, passed}
use Rattle.dbus_types.specs.Breaks.{Begins, BeginsOne, IsBadAt, IsTooDeepAt, IsNoTypeAt, IsTypeTooDeepAt, IsChecked, IsSingleReading}
use Rattle.dbus_types.proofs.ReadingStops.{Kinds, error_place}
use Rattle.dbus_types.proofs.WholeSignatures.{begins_as, checked_none, short_reading, reading_checked, stops_no_memory, whole_again}
use Rattle.dbus_types.proofs.OneTypeRead.{single_reading, single_no_memory, single_again}

-- a shorter front
front_split : (text : List ℕ) (j k : ℕ) → j ≤ k → k ≤ length text → take k text ≡ take j text ++ drop j (take k text)
front_split text j k le within =
    let front : List ℕ = take k text in
    let long : j ≤ length front = omega (arith, le, within, length-take k text) in
    let same : take j text ≡ take j front = ap (take j) (sym (take-append-drop k text)) ∙ take-append-le j front (drop k text) long in
    sym (take-append-drop j front) ∙ ap (λ (w : List ℕ). w ++ drop j front) (sym same)

equal_places : (a b : ℕ) → (a < b → ⊥) → (b < a → ⊥) → a ≡ b
equal_places a b less more = elim (cases_lt a b) [
  | inl lt ↦ absurd (less lt)
  | inr le ↦ elim (cases_lt b a) [ inl lt ↦ absurd (more lt) | inr ge ↦ omega (arith, le, ge) ]
]

-- ---- lists of types

module _ (text : List ℕ) (short : length text ≤ 255) where
  begins_less : (P : Kinds) (j k : ℕ) → j ≤ k → k ≤ length text → Begins P (take k text) → Begins P (take j text)
  begins_less P j k le within h = (
    h.0,
    drop j (take k text) ++ h.1,
    h.2,
    h.3 ∙ (ap (λ (w : List ℕ). w ++ h.1) (front_split text j k le within) ∙ append_assoc (take j text) (drop j (take k text)) h.1),
  )

  goes_to : (e : SignatureError) → IsChecked text (Err e) → Begins IsValidType (take (error_place e) text) × (error_place e ≤ length text)
  goes_to (BadSignature k) h = (
    h.0,
    elim h.1 [
      | inl long ↦ absurd (omega (arith, long.1, short))
      | inr x ↦ elim x [ inl end ↦ omega (arith, end.0) | inr byte ↦ omega (arith, byte.0) ]
    ],
  )
  goes_to (TooDeep k) h = (h.2, omega (arith, h.0))
  goes_to Memory h = absurd h

  goes_no_further : (e : SignatureError) → IsChecked text (Err e) → (b : ℕ) → error_place e < b → b ≤ length text → Begins IsValidType (take b text) → ⊥
  goes_no_further (BadSignature k) h b lt within s = elim h.1 [
    | inl long ↦ omega (arith, long.1, short)
    | inr x ↦ elim x [
      | inl end ↦ omega (arith, end.0, lt, within)
      | inr byte ↦ byte.2 (begins_as IsValidType IsComplete (take (k + 1) text) (λ t f. f.0) (begins_less IsValidType (k + 1) b (omega (arith, lt)) within s))
    ]
  ]
  goes_no_further (TooDeep k) h b lt within s = h.4 (begins_less IsValidType (k + 1) b (omega (arith, lt)) within s)
  goes_no_further Memory h b lt within s = h

  clash : (a b : ℕ) → IsBadAt text a → IsTooDeepAt text b → a ≡ b → ⊥
  clash a b h k same = elim h.1 [
    | inl long ↦ omega (arith, long.1, short)
    | inr x ↦ elim x [
      | inl end ↦ omega (arith, end.0, k.0, same)
      | inr byte ↦ byte.2 (subst (λ (i : ℕ). Begins IsComplete (take (i + 1) text)) (sym same) k.3)
    ]
  ]

  once : (d e : SignatureError) → IsChecked text (Err d) → IsChecked text (Err e) → d ≡ e
  once d e h k = same d e h k (equal_places (error_place d) (error_place e)
      (λ lt. goes_no_further d h (error_place e) lt (goes_to e k).1 (goes_to e k).0)
      (λ lt. goes_no_further e k (error_place d) lt (goes_to d h).1 (goes_to d h).0))
    where
      same : (d e : SignatureError) → IsChecked text (Err d) → IsChecked text (Err e) → error_place d ≡ error_place e → d ≡ e
      same (BadSignature a) (BadSignature b) h k p = ap BadSignature p
      same (TooDeep a) (TooDeep b) h k p = ap TooDeep p
      same (BadSignature a) (TooDeep b) h k p = absurd (clash a b h k p)
      same (TooDeep a) (BadSignature b) h k p = absurd (clash b a k h (sym p))
      same Memory e h k p = absurd h
      same d Memory h k p = absurd k

  -- the reading stops where the text goes wrong
  pub reading_stops : (e : SignatureError) → IsChecked text (Err e) → whole_at 32 32 text ≡ Err e
  reading_stops e h = go (whole_at 32 32 text) refl
    where
      go : (r : Result (List WireType) SignatureError) → whole_at 32 32 text ≡ r → whole_at 32 32 text ≡ Err e
      go (Ok ts) is = absurd (checked_none text e ts h (short_reading text (Ok ts) short is))
      go (Err d) is = is ∙ ap (λ (x : SignatureError). Err x) (once d e (reading_checked text d (stops_no_memory text d is) (short_reading text (Err d) short is)) h)

-- ---- one type

abbrev pub IsNoSingle : List ℕ → SignatureError → Type 0
IsNoSingle text (BadSignature k) = IsNoTypeAt text k
IsNoSingle text (TooDeep k) = IsTypeTooDeepAt text k
IsNoSingle text Memory = ⊥

module _ (text : List ℕ) where
  one_less : (P : Kinds) (j k : ℕ) → j ≤ k → k ≤ length text → BeginsOne P (take k text) → BeginsOne P (take j text)
  one_less P j k le within h = (
    h.0,
    drop j (take k text) ++ h.1,
    h.2,
    h.3 ∙ (ap (λ (w : List ℕ). w ++ h.1) (front_split text j k le within) ∙ append_assoc (take j text) (drop j (take k text)) h.1),
  )

  one_to : (e : SignatureError) → IsNoSingle text e → BeginsOne IsValidType (take (error_place e) text) × (error_place e ≤ length text)
  one_to (BadSignature k) h = (h.0, elim h.1 [ inl end ↦ omega (arith, end.0) | inr byte ↦ omega (arith, byte.0) ])
  one_to (TooDeep k) h = (h.1, omega (arith, h.0))
  one_to Memory h = absurd h

  one_no_further : (e : SignatureError) → IsNoSingle text e → (b : ℕ) → error_place e < b → b ≤ length text → BeginsOne IsValidType (take b text) → ⊥
  one_no_further (BadSignature k) h b lt within s = elim h.1 [
    | inl end ↦ omega (arith, end.0, lt, within)
    | inr byte ↦ let u = one_less IsValidType (k + 1) b (omega (arith, lt)) within s in byte.1 (u.0, u.1, u.2.0, u.3)
  ]
  one_no_further (TooDeep k) h b lt within s = h.3 (one_less IsValidType (k + 1) b (omega (arith, lt)) within s)
  one_no_further Memory h b lt within s = h

  one_clash : (a b : ℕ) → IsNoTypeAt text a → IsTypeTooDeepAt text b → a ≡ b → ⊥
  one_clash a b h k same = elim h.1 [
    | inl end ↦ omega (arith, end.0, k.0, same)
    | inr byte ↦ byte.1 (subst (λ (i : ℕ). BeginsOne IsComplete (take (i + 1) text)) (sym same) k.2)
  ]

  one_once : (d e : SignatureError) → IsNoSingle text d → IsNoSingle text e → d ≡ e
  one_once d e h k = same d e h k (equal_places (error_place d) (error_place e)
      (λ lt. one_no_further d h (error_place e) lt (one_to e k).1 (one_to e k).0)
      (λ lt. one_no_further e k (error_place d) lt (one_to d h).1 (one_to d h).0))
    where
      same : (d e : SignatureError) → IsNoSingle text d → IsNoSingle text e → error_place d ≡ error_place e → d ≡ e
      same (BadSignature a) (BadSignature b) h k p = ap BadSignature p
      same (TooDeep a) (TooDeep b) h k p = ap TooDeep p
      same (BadSignature a) (TooDeep b) h k p = absurd (one_clash a b h k p)
      same (TooDeep a) (BadSignature b) h k p = absurd (one_clash b a k h (sym p))
      same Memory e h k p = absurd h
      same d Memory h k p = absurd k

  no_type : (e : SignatureError) → IsNoSingle text e → (t : WireType) → IsValidType t → text ≡ type_text t → ⊥
  no_type (BadSignature k) h t valid same = elim h.1 [
    | inl end ↦ end.1 t valid same
    | inr byte ↦ byte.1 (t, drop (k + 1) text, valid.0, sym same ∙ sym (take-append-drop (k + 1) text))
  ]
  no_type (TooDeep k) h t valid same = h.3 (t, drop (k + 1) text, valid, sym same ∙ sym (take-append-drop (k + 1) text))
  no_type Memory h t valid same = h

  single_wrong : (e : SignatureError) → single_at 32 32 text ≡ Err e → IsNoSingle text e
  single_wrong (BadSignature k) is = single_reading text (Err (BadSignature k)) is
  single_wrong (TooDeep k) is = single_reading text (Err (TooDeep k)) is
  single_wrong Memory is = single_no_memory text is

  pub single_stops : (e : SignatureError) → IsNoSingle text e → single_at 32 32 text ≡ Err e
  single_stops e h = go (single_at 32 32 text) refl
    where
      go : (r : Result WireType SignatureError) → single_at 32 32 text ≡ r → single_at 32 32 text ≡ Err e
      go (Ok t) is = let k = single_reading text (Ok t) is in absurd (no_type e h t k.0 k.1)
      go (Err d) is = is ∙ ap (λ (x : SignatureError). Err x) (one_once d e (single_wrong d is) h)

-- ---- what is answered is what reading from the left gives

pub single_from_left : (text : List ℕ) (r : Result WireType SignatureError) → IsSingleReading text r → Gives (λ t. t) r (single_at 32 32 text)
single_from_left text (Ok t) h = ap (single_at 32 32) h.1 ∙ single_again t h.0
single_from_left text (Err (BadSignature at)) h = single_stops text (BadSignature at) h
single_from_left text (Err (TooDeep at)) h = single_stops text (TooDeep at) h
single_from_left text (Err Memory) h = tt

pub checked_from_left : (text : List ℕ) (r : Result (Unit {0}) SignatureError) → length text ≤ 255 → IsChecked text r → Tells (λ u. u) r (passed (whole_at 32 32 text))
checked_from_left text (Ok u) short h = ap passed (whole_again h.0 text h.1.1 h.1.0)
checked_from_left text (Err e) short h = ap passed (reading_stops text short e h)
