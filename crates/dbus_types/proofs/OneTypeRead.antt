-- What the text of one type is read as, and where the reading stops.
use Rattle.std.proofs.Common.{◌≡◌, ℕ, ◌+◌, ◌<◌, ◌≤◌, List, [], ◌∷◌, ◌++◌, length, drop, Result, Ok, Err, refl, sym, ap, subst, ◌∙◌, append_assoc, append-nil, drop-cons, arith, inl, inr}
use Rattle.std.proofs.lemmas.List.{length-append}
use Rattle.std.proofs.Math.ListN.{drop_of_length-le}
use Rattle.dbus_types.specs.declared.types.WireType.{WireType}
use Rattle.dbus_types.specs.declared.errors.SignatureError.{SignatureError}
use Rattle.dbus_types.specs.declared.errors.SignatureError.TheVariants.{BadSignature, TooDeep, Memory}
use Rattle.dbus_types.specs.Types.{type_text, Fits, IsComplete, IsValidType}
use Rattle.dbus_types.specs.Reading.{◌>>=◌, Gives, Fails, type_at, alone, single_at}
use Rattle.dbus_types.specs.Breaks.{BeginsOne, IsSingleReading, IsSingleReadAs}
use Rattle.dbus_types.proofs.TextsReadAgain.{type_again}
use Rattle.dbus_types.proofs.ReadingSteps.{fails_as}
use Rattle.dbus_types.proofs.ReadingStops.{Kinds, Viable, error_place, Admits, Deeper, After, Any, Took, Stops, Outcome, type_out, through, unique}
use Rattle.dbus_types.proofs.WholeSignatures.{any_complete, complete_any, front_taken, more_taken, nothing_else}

-- ---- behind a type

pub read_alone : (t : WireType) (text : List ℕ) (end : ℕ) → length text ≤ end → type_at 32 32 0 text ≡ Ok (t, end, drop end text) → single_at 32 32 text ≡ Ok t
read_alone t text end le is = rw is (rw (drop_of_length-le text le) refl)

pub read_second : (t : WireType) (text : List ℕ) (end : ℕ) → end < length text → type_at 32 32 0 text ≡ Ok (t, end, drop end text) → single_at 32 32 text ≡ Err (BadSignature end)
read_second t text end lt is = rw is (rw (drop-cons text end 0 lt) refl)

pub read_stops : (text : List ℕ) (e : SignatureError) → Fails e (type_at 32 32 0 text) → Fails e (single_at 32 32 text)
read_stops text e h = fails_as e (type_at 32 32 0 text) (λ x. x >>= λ t. alone t.0 t.1 t.2) (λ d. refl) h

-- ---- the text of a type is read again

pub single_again : (t : WireType) → IsValidType t → single_at 32 32 (type_text t) ≡ Ok t
single_again t h =
    let one = ap (type_at 32 32 0) (sym (append-nil (type_text t))) ∙ type_again 32 32 t 0 [] h in
    rw one refl

-- ---- where it stops

module _ (text front : List ℕ) (b : ℕ) (r : List ℕ) (parts : text ≡ front ++ b ∷ r) (begins : Viable IsValidType front) where
  inside : length front < length text
  inside = omega (arith, ap length parts, length-append front (b ∷ r))

  never : (P Q : Kinds) → ((t : WireType) → P t → Q t) → ((t : WireType) (y : List ℕ) → Q t → type_text t ≡ front ++ b ∷ y → ⊥) → BeginsOne P (front ++ b ∷ []) → ⊥
  never P Q f refused h = refused h.0 h.1 (f h.0 h.2) (h.3 ∙ append_assoc front (b ∷ []) h.1)

  byte_stops : (e : SignatureError) → error_place e ≡ length front → Deeper e Any (front ++ b ∷ []) → ((t : WireType) (y : List ℕ) → Admits e IsValidType Any t → type_text t ≡ front ++ b ∷ y → ⊥) → IsSingleReading text (Err e)
  byte_stops (BadSignature at) p deep h = (
    subst (BeginsOne IsValidType) (sym (front_taken text front (b ∷ r) at parts p)) begins,
    inr (omega (arith, p, inside), λ x. never IsComplete Any complete_any h (subst (BeginsOne IsComplete) (more_taken text front b r at parts p) x)),
  )
  byte_stops (TooDeep at) p deep h = (
    omega (arith, p, inside),
    subst (BeginsOne IsValidType) (sym (front_taken text front (b ∷ r) at parts p)) begins,
    subst (BeginsOne IsComplete) (sym (more_taken text front b r at parts p)) (deep.0, deep.1, any_complete deep.0 deep.2, deep.3),
    λ x. never IsValidType IsValidType (λ t k. k) h (subst (BeginsOne IsValidType) (more_taken text front b r at parts p) x),
  )
  byte_stops Memory p deep h = absurd deep

not_ok : (text : List ℕ) (e : SignatureError) → single_at 32 32 text ≡ Err e → (t : WireType) → IsValidType t → text ≡ type_text t → ⊥
not_ok text e is t h same = subst Bad (sym is ∙ (ap (single_at 32 32) same ∙ single_again t h)) tt
  where
    Bad : Result WireType SignatureError → Type 0
    Bad (Ok t) = ⊥
    Bad (Err e) = Unit {0}

type_stops : (text : List ℕ) (e : SignatureError) → single_at 32 32 text ≡ Err e → Stops e 0 text (Fits 32 32) Any → IsSingleReading text (Err e)
type_stops text e is s = go e is s.front s.rest s.parts s.place s.begins s.ends
  where
    go : (e : SignatureError) → single_at 32 32 text ≡ Err e → (front rest : List ℕ) → text ≡ front ++ rest → error_place e ≡ 0 + length front → Viable IsValidType front → After e IsValidType Any front rest → IsSingleReading text (Err e)
    go (BadSignature at) is front [] parts p begins h =
        let len : length text ≡ length front = ap length (parts ∙ append-nil front) in
        (subst (BeginsOne IsValidType) (sym (front_taken text front [] at parts (omega (arith, p)))) begins, inl (omega (arith, p, len), not_ok text (BadSignature at) is))
    go (TooDeep at) is front [] parts p begins h = absurd h
    go Memory is front [] parts p begins h = absurd h
    go e is front (b ∷ r) parts p begins h = byte_stops text front b r parts begins e (omega (arith, p)) h.0 (λ t y k eq. h.1 t [] y k (append-nil (type_text t) ∙ eq))

-- a second type begins where the first ends
second_stops : (text : List ℕ) (t : WireType) (next b : ℕ) (r : List ℕ) → Took (Fits 32 32) 0 text t next (b ∷ r) → IsSingleReading text (Err (BadSignature next))
second_stops text t next b r tk = byte_stops text (type_text t) b r tk.parts (t, [], tk.holds, sym (append-nil (type_text t))) (BadSignature next) (omega (arith, tk.place)) tt
    (λ u y k eq. nothing_else b y (unique k.0 k.1 32 32 u t [] (b ∷ y) k.2 tk.holds (append-nil (type_text u) ∙ eq)).1)

pub single_reading : (text : List ℕ) (r : Result WireType SignatureError) → single_at 32 32 text ≡ r → IsSingleReading text r
single_reading text r is = subst (IsSingleReading text) is (through (Outcome (Fits 32 32) Any 0 text) (λ x. single_at 32 32 text ≡ x → IsSingleReading text x) (type_at 32 32 0 text) (λ t. alone t.0 t.1 t.2) (type_out 32 32 0 text)
    (λ t tk. last t.0 t.1 t.2 tk)
    (λ e s eq. type_stops text e eq s) refl)
  where
    last : (t : WireType) (next : ℕ) (rest : List ℕ) → Took (Fits 32 32) 0 text t next rest → single_at 32 32 text ≡ alone t next rest → IsSingleReading text (alone t next rest)
    last t next [] tk eq = (tk.holds, tk.parts ∙ append-nil (type_text t))
    last t next (b ∷ r) tk eq = second_stops text t next b r tk

abbrev failed : SignatureError → Result WireType SignatureError
failed e = Err e

pub single_no_memory : (text : List ℕ) → single_at 32 32 text ≡ Err Memory → ⊥
single_no_memory text is = through (Outcome (Fits 32 32) Any 0 text) (λ x. x ≡ Err Memory → ⊥) (type_at 32 32 0 text) (λ t. alone t.0 t.1 t.2) (type_out 32 32 0 text)
    (λ t tk. behind t.0 t.1 t.2)
    (λ e s eq. halts e s.front s.rest s.ends eq) is
  where
    NoMemory : Result WireType SignatureError → Type 0
    NoMemory (Err Memory) = ⊥
    NoMemory r = Unit {0}

    behind : (t : WireType) (next : ℕ) (rest : List ℕ) → alone t next rest ≡ Err Memory → ⊥
    behind t next [] eq = subst NoMemory eq tt
    behind t next (b ∷ r) eq = subst NoMemory eq tt

    halts : (e : SignatureError) (front rest : List ℕ) → After e (Fits 32 32) Any front rest → failed e ≡ Err Memory → ⊥
    halts (BadSignature at) front rest h eq = subst NoMemory eq tt
    halts (TooDeep at) front rest h eq = subst NoMemory eq tt
    halts Memory front [] h eq = h
    halts Memory front (b ∷ r) h eq = h.0

-- ---- the reader

pub reads_single : (text : List ℕ) (r : Result WireType SignatureError) → Gives (λ t. t) r (single_at 32 32 text) → IsSingleReading text r
reads_single text (Ok t) h = single_reading text (Ok t) h
reads_single text (Err Memory) h = tt
reads_single text (Err (BadSignature at)) h = single_reading text (Err (BadSignature at)) h
reads_single text (Err (TooDeep at)) h = single_reading text (Err (TooDeep at)) h

pub single_only : (text : List ℕ) (r : Result WireType SignatureError) → Gives (λ t. t) r (single_at 32 32 text) → (t : WireType) → IsValidType t → text ≡ type_text t → IsSingleReadAs t r
single_only text r h t valid same = go r (subst (Gives (λ t. t) r) (ap (single_at 32 32) same ∙ single_again t valid) h)
  where
    Good : Result WireType SignatureError → Type 0
    Good (Ok u) = Unit {0}
    Good (Err e) = ⊥

    kind : Result WireType SignatureError → WireType
    kind (Ok u) = u
    kind (Err e) = t

    go : (r : Result WireType SignatureError) → Gives (λ t. t) r (Ok t) → IsSingleReadAs t r
    go (Ok u) h = sym (ap kind h)
    go (Err Memory) h = tt
    go (Err (BadSignature at)) h = absurd (subst Good h tt)
    go (Err (TooDeep at)) h = absurd (subst Good h tt)
