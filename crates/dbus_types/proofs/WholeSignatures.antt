-- What the whole text of a signature is read as, and where the reading stops.
use Rattle.std.proofs.Common.{◌≡◌, ℕ, zero, suc, ◌+◌, ◌<◌, ◌≤◌, List, [], ◌∷◌, ◌++◌, length, take, drop, Result, Ok, Err, refl, sym, ap, subst, ◌∙◌, append_assoc, append-nil, arith, inl, inr}
use Rattle.std.specs.Prelude.{All}
use Rattle.std.proofs.lemmas.List.{length-append, take_at, take-append-drop, length-take}
use Rattle.std.proofs.lemmas.List.Elements.{All-head, All-tail, All-cons, All-nil, All-append}
use Rattle.dbus_types.specs.declared.types.WireType.{WireType}
use Rattle.dbus_types.specs.declared.errors.SignatureError.{SignatureError}
use Rattle.dbus_types.specs.declared.errors.SignatureError.TheVariants.{BadSignature, TooDeep, Memory}
use Rattle.dbus_types.specs.Types.{type_text, types_text, arrays_deep, brackets_deep, Fits, IsComplete, IsValidType, IsSignature}
use Rattle.dbus_types.specs.Reading.{Gives, Tells, passed, type_at, with_first, list_at, whole_at}
use Rattle.dbus_types.specs.Breaks.{Begins, IsBadAt, IsTooDeepAt, IsReading, IsReadAs, IsChecked}
use Rattle.dbus_types.proofs.TextsReadAgain.{starts, type_again, list_again}
use Rattle.dbus_types.proofs.ReadingStops.{Kinds, Viable, error_place, Admits, AtEnd, Any, Took, Stops, Outcome, After, type_out, types_append, through, unique}

-- ---- where a list of types stops

abbrev pub ListDeeper : SignatureError → Kinds → List ℕ → Type 0
ListDeeper (BadSignature at) G front = Unit {0}
ListDeeper (TooDeep at) G front = Begins G front
ListDeeper Memory G front = ⊥

abbrev pub ListAfter : SignatureError → Kinds → Kinds → List ℕ → List ℕ → Type 0
ListAfter e F G front [] = AtEnd e
ListAfter e F G front (b ∷ r) = ListDeeper e G (front ++ b ∷ []) × ((ts : List WireType) (y : List ℕ) → All (Admits e F G) ts → types_text ts ≡ front ++ b ∷ y → ⊥)

pub record ListStops (e : SignatureError) (text : List ℕ) (F G : Kinds) : Type 0 where
  pub front : List ℕ
  pub rest : List ℕ
  pub parts : text ≡ front ++ rest
  pub place : error_place e ≡ length front
  pub begins : Begins F front
  pub ends : ListAfter e F G front rest

all_any : (a b : ℕ) (ts : List WireType) → All (Fits a b) ts → All Any ts
all_any a b ts h = λ k u lt. (a, b, h k u lt)

pub nothing_else : (b : ℕ) (y : List ℕ) → [] ≡ b ∷ y → ⊥
nothing_else b y e = omega (arith, ap length e)

-- the types that were read are the first of those whose texts go on behind them
list_skip : (a b : ℕ) (K : Kinds) → ((t : WireType) → K t → Any t) → (ts us : List WireType) (front : List ℕ) (c : ℕ) (y : List ℕ) → All (Fits a b) ts → All K us → types_text us ≡ types_text ts ++ (front ++ c ∷ y)
    → (u : WireType) × (w : List ℕ) × K u × (type_text u ++ w ≡ front ++ c ∷ y)
list_skip a b K any [] [] front c y h k e = absurd (omega (arith, ap length e, length-append front (c ∷ y)))
list_skip a b K any [] (u ∷ us) front c y h k e = (u, types_text us, All-head K u us k, e)
list_skip a b K any (t ∷ ts) [] front c y h k e =
    let s = starts a b t (All-head (Fits a b) t ts h) in
    absurd (omega (arith, ap length e, length-append (type_text t ++ types_text ts) (front ++ c ∷ y), length-append (type_text t) (types_text ts), ap length s.2))
list_skip a b K any (t ∷ ts) (u ∷ us) front c y h k e =
    let g = any u (All-head K u us k) in
    let one = (unique g.0 g.1 a b u t (types_text us) (types_text ts ++ (front ++ c ∷ y)) g.2 (All-head (Fits a b) t ts h) (e ∙ append_assoc (type_text t) (types_text ts) (front ++ c ∷ y))).1 in
    list_skip a b K any ts us front c y (All-tail (Fits a b) t ts h) (All-tail K u us k) one

module _ (a b : ℕ) (whole : List ℕ) where
  abbrev ListOut : List WireType → Result (List WireType) SignatureError → Type 0
  ListOut ts (Ok us) = (whole ≡ types_text (ts ++ us)) × All (Fits a b) (ts ++ us)
  ListOut ts (Err e) = ListStops e whole (Fits a b) Any

  first_out : (ts : List WireType) (t : WireType) (r : Result (List WireType) SignatureError) → ListOut (ts ++ t ∷ []) r → ListOut ts (with_first t r)
  first_out ts t (Ok us) h = subst (λ (vs : List WireType). (whole ≡ types_text vs) × All (Fits a b) vs) (append_assoc ts (t ∷ []) us) h
  first_out ts t (Err e) h = h

  begins_more : (P : Kinds) (ts : List WireType) (front : List ℕ) → All P ts → Viable P front → Begins P (types_text ts ++ front)
  begins_more P ts front h v = (
    ts ++ v.0 ∷ [],
    v.1,
    All-append P ts (v.0 ∷ []) h (All-cons P v.0 [] v.2 (All-nil P)),
    types_append ts (v.0 ∷ []) ∙ (ap (λ (w : List ℕ). types_text ts ++ w) (append-nil (type_text v.0) ∙ v.3) ∙ sym (append_assoc (types_text ts) front v.1)),
  )

  admits_any : (e : SignatureError) (t : WireType) → Admits e (Fits a b) Any t → Any t
  admits_any (BadSignature at) t h = h
  admits_any (TooDeep at) t h = (a, b, h)
  admits_any Memory t h = h

  next_stops : (ts : List WireType) (e : SignatureError) (next : ℕ) (text : List ℕ) → All (Fits a b) ts → whole ≡ types_text ts ++ text → next ≡ length (types_text ts) → Stops e next text (Fits a b) Any → ListStops e whole (Fits a b) Any
  next_stops ts e next text h parts place s = record {
    front = types_text ts ++ s.front;
    rest = s.rest;
    parts = parts ∙ (ap (λ (w : List ℕ). types_text ts ++ w) s.parts ∙ sym (append_assoc (types_text ts) s.front s.rest));
    place = omega (arith, s.place, place, length-append (types_text ts) s.front);
    begins = begins_more (Fits a b) ts s.front h s.begins;
    ends = after e s.front s.rest s.ends;
  }
    where
      deeper : (e : SignatureError) (front : List ℕ) (c : ℕ) → Rattle.dbus_types.proofs.ReadingStops.Deeper e Any (front ++ c ∷ []) → ListDeeper e Any ((types_text ts ++ front) ++ c ∷ [])
      deeper (BadSignature at) front c d = tt
      deeper (TooDeep at) front c d = subst (Begins Any) (sym (append_assoc (types_text ts) front (c ∷ []))) (begins_more Any ts (front ++ c ∷ []) (all_any a b ts h) d)
      deeper Memory front c d = d

      after : (e : SignatureError) (front rest : List ℕ) → After e (Fits a b) Any front rest → ListAfter e (Fits a b) Any (types_text ts ++ front) rest
      after e front [] d = d
      after e front (c ∷ r) d = (
        deeper e front c d.0,
        λ us y k eq.
            let u = list_skip a b (Admits e (Fits a b) Any) (admits_any e) ts us front c y h k (eq ∙ append_assoc (types_text ts) front (c ∷ y)) in
            d.1 u.0 u.1 y u.2 u.3,
      )

  list_out : (n next : ℕ) (text : List ℕ) (ts : List WireType) → length text ≤ n → All (Fits a b) ts → whole ≡ types_text ts ++ text → next ≡ length (types_text ts) → ListOut ts (list_at n (type_at a b) next text)
  unfolding list_at
  list_out zero next [] ts le h parts place = (parts ∙ (append-nil (types_text ts) ∙ ap types_text (sym (append-nil ts))), subst (All (Fits a b)) (sym (append-nil ts)) h)
  list_out (suc n) next [] ts le h parts place = (parts ∙ (append-nil (types_text ts) ∙ ap types_text (sym (append-nil ts))), subst (All (Fits a b)) (sym (append-nil ts)) h)
  list_out zero next (c ∷ rest) ts le h parts place = absurd (omega (arith, le))
  list_out (suc n) next (c ∷ rest) ts le h parts place = through (Outcome (Fits a b) Any next (c ∷ rest)) (ListOut ts) (type_at a b next (c ∷ rest)) _ (type_out a b next (c ∷ rest))
      (λ t tk. first_out ts t.0 (list_at n (type_at a b) t.1 t.2)
      (list_out n t.1 t.2 (ts ++ t.0 ∷ [])
      (shorter t.0 t.2 tk.holds tk.parts)
      (All-append (Fits a b) ts (t.0 ∷ []) h (All-cons (Fits a b) t.0 [] tk.holds (All-nil (Fits a b))))
      (parts ∙ (ap (λ (w : List ℕ). types_text ts ++ w) tk.parts ∙ sym (ap (λ (w : List ℕ). w ++ t.2) (longer t.0) ∙ append_assoc (types_text ts) (type_text t.0) t.2)))
      (omega (arith, place, tk.place, ap length (longer t.0), length-append (types_text ts) (type_text t.0)))))
      (λ e s. next_stops ts e next (c ∷ rest) h parts place s)
    where
      longer : (t : WireType) → types_text (ts ++ t ∷ []) ≡ types_text ts ++ type_text t
      longer t = types_append ts (t ∷ []) ∙ ap (λ (w : List ℕ). types_text ts ++ w) (append-nil (type_text t))

      shorter : (t : WireType) (left : List ℕ) → Fits a b t → c ∷ rest ≡ type_text t ++ left → length left ≤ n
      shorter t left f e = let s = starts a b t f in omega (arith, le, ap length e, length-append (type_text t) left, ap length s.2)

pub whole_out : (text : List ℕ) → ListOut 32 32 text [] (whole_at 32 32 text)
whole_out text = list_out 32 32 text (length text) 0 text [] (omega arith) (All-nil (Fits 32 32)) refl refl

pub whole_again : (ts : List WireType) (text : List ℕ) → All IsValidType ts → text ≡ types_text ts → whole_at 32 32 text ≡ Ok ts
whole_again ts text h e = ap (whole_at 32 32) e ∙ list_again (type_at 32 32) IsValidType (starts 32 32) (type_again 32 32) ts (length (types_text ts)) 0 (omega arith) h

-- ---- what the definitions say of it

pub any_complete : (t : WireType) → Any t → IsComplete t
any_complete t h = h.2.0

pub complete_any : (t : WireType) → IsComplete t → Any t
complete_any t h = (arrays_deep t, brackets_deep t, (h, omega arith, omega arith))

pub begins_as : (P Q : Kinds) (front : List ℕ) → ((t : WireType) → P t → Q t) → Begins P front → Begins Q front
begins_as P Q front f h = (h.0, h.1, (λ k u lt. f _ (h.2 k u lt)), h.3)

pub front_taken : (text front rest : List ℕ) (at : ℕ) → text ≡ front ++ rest → at ≡ length front → take at text ≡ front
front_taken text front rest at e p = ap (take at) e ∙ take_at front rest at (sym p)

pub more_taken : (text front : List ℕ) (b : ℕ) (r : List ℕ) (at : ℕ) → text ≡ front ++ b ∷ r → at ≡ length front → take (at + 1) text ≡ front ++ b ∷ []
more_taken text front b r at e p = ap (take (at + 1)) (e ∙ sym (append_assoc front (b ∷ []) r)) ∙ take_at (front ++ b ∷ []) r (at + 1) (omega (arith, p, length-append front (b ∷ [])))

module _ (text front : List ℕ) (b : ℕ) (r : List ℕ) (parts : text ≡ front ++ b ∷ r) (short : length front < 255) (begins : Begins IsValidType front) where
  inside : length front < length text
  inside = omega (arith, ap length parts, length-append front (b ∷ r))

  never : (P Q : Kinds) → ((t : WireType) → P t → Q t) → ((ts : List WireType) (y : List ℕ) → All Q ts → types_text ts ≡ front ++ b ∷ y → ⊥) → Begins P (front ++ b ∷ []) → ⊥
  never P Q f refused h = refused h.0 h.1 (λ k u lt. f _ (h.2 k u lt)) (h.3 ∙ append_assoc front (b ∷ []) h.1)

  pub stops_reading : (e : SignatureError) → error_place e ≡ length front → ListAfter e IsValidType Any front (b ∷ r) → IsReading text (Err e)
  stops_reading (BadSignature at) p h = (
    subst (Begins IsValidType) (sym (front_taken text front (b ∷ r) at parts p)) begins,
    inr (inr (omega (arith, p, inside), omega (arith, p, short), λ x. never IsComplete Any complete_any h.1 (subst (Begins IsComplete) (more_taken text front b r at parts p) x))),
  )
  stops_reading (TooDeep at) p h = (
    omega (arith, p, inside),
    omega (arith, p, short),
    subst (Begins IsValidType) (sym (front_taken text front (b ∷ r) at parts p)) begins,
    subst (Begins IsComplete) (sym (more_taken text front b r at parts p)) (begins_as Any IsComplete (front ++ b ∷ []) any_complete h.0),
    λ x. never IsValidType IsValidType (λ t k. k) h.1 (subst (Begins IsValidType) (more_taken text front b r at parts p) x),
  )
  stops_reading Memory p h = absurd h.0

not_ok : (text : List ℕ) (e : SignatureError) → whole_at 32 32 text ≡ Err e → (ts : List WireType) → IsSignature ts text → ⊥
not_ok text e is ts h = subst Bad (sym is ∙ whole_again ts text h.1 h.0) tt
  where
    Bad : Result (List WireType) SignatureError → Type 0
    Bad (Ok ts) = ⊥
    Bad (Err e) = Unit {0}

pub short_reading : (text : List ℕ) (r : Result (List WireType) SignatureError) → length text ≤ 255 → whole_at 32 32 text ≡ r → IsReading text r
short_reading text r le is = go r is (subst (ListOut 32 32 text []) is (whole_out text))
  where
    go : (r : Result (List WireType) SignatureError) → whole_at 32 32 text ≡ r → ListOut 32 32 text [] r → IsReading text r
    go (Ok ts) is h = (h.0, h.1, le)
    go (Err e) is s = stop e is s.front s.rest s.parts s.place s.begins s.ends
      where
        stop : (e : SignatureError) → whole_at 32 32 text ≡ Err e → (front rest : List ℕ) → text ≡ front ++ rest → error_place e ≡ length front → Begins IsValidType front → ListAfter e IsValidType Any front rest → IsReading text (Err e)
        stop (BadSignature at) is front [] parts p begins h =
            let len : length text ≡ length front = ap length (parts ∙ append-nil front) in
            (subst (Begins IsValidType) (sym (front_taken text front [] at parts p)) begins, inr (inl (omega (arith, p, len), omega (arith, p, len, le), not_ok text (BadSignature at) is)))
        stop (TooDeep at) is front [] parts p begins h = absurd h
        stop Memory is front [] parts p begins h = absurd h
        stop e is front (b ∷ r) parts p begins h = stops_reading text front b r parts (omega (arith, le, ap length parts, length-append front (b ∷ r))) begins e p h

-- a text that is longer than a signature is read up to its 255th byte
abbrev pub cut : Result (List WireType) SignatureError → Result (List WireType) SignatureError
cut (Ok ts) = Err (BadSignature 255)
cut (Err e) = Err e

pub long_reading : (text : List ℕ) (r : Result (List WireType) SignatureError) → 255 < length text → whole_at 32 32 (take 255 text) ≡ r → IsReading text (cut r)
long_reading text r lt is = go r (subst (ListOut 32 32 (take 255 text) []) is (whole_out (take 255 text)))
  where
    len : length (take 255 text) ≡ 255
    len = omega (arith, lt, length-take 255 text)

    go : (r : Result (List WireType) SignatureError) → ListOut 32 32 (take 255 text) [] r → IsReading text (cut r)
    go (Ok ts) h = ((ts, [], h.1, sym h.0 ∙ sym (append-nil (take 255 text))), inl (refl, lt))
    go (Err e) s = stop e s.front s.rest s.parts s.place s.begins s.ends
      where
        stop : (e : SignatureError) → (front rest : List ℕ) → take 255 text ≡ front ++ rest → error_place e ≡ length front → Begins IsValidType front → ListAfter e IsValidType Any front rest → IsReading text (Err e)
        stop (BadSignature at) front [] parts p begins h =
            let same : take 255 text ≡ front = parts ∙ append-nil front in
            let all : at ≡ 255 = omega (arith, p, ap length same, len) in
            (subst (Begins IsValidType) (sym (ap (λ (n : ℕ). take n text) all ∙ same)) begins, inl (all, lt))
        stop (TooDeep at) front [] parts p begins h = absurd h
        stop Memory front [] parts p begins h = absurd h
        stop e front (b ∷ r) parts p begins h =
            let more : List ℕ = drop 255 text in
            stops_reading text front b (r ++ more) (sym (take-append-drop 255 text) ∙ (ap (λ (w : List ℕ). w ++ more) parts ∙ append_assoc front (b ∷ r) more)) (omega (arith, len, ap length parts, length-append front (b ∷ r))) begins e p (h.0, h.1)

-- ---- what goes wrong is no signature

bad_none : (text : List ℕ) (at : ℕ) (ts : List WireType) → IsBadAt text at → IsSignature ts text → ⊥
bad_none text at ts h k = elim h.1 [
  | inl long ↦ omega (arith, long.1, k.2)
  | inr x ↦ elim x [
    | inl short ↦ short.2 ts k
    | inr byte ↦ byte.2 (ts, drop (at + 1) text, (λ i u lt. (k.1 i u lt).0), sym k.0 ∙ sym (take-append-drop (at + 1) text))
  ]
]

deep_none : (text : List ℕ) (at : ℕ) (ts : List WireType) → IsTooDeepAt text at → IsSignature ts text → ⊥
deep_none text at ts h k = h.4 (ts, drop (at + 1) text, k.1, sym k.0 ∙ sym (take-append-drop (at + 1) text))

pub checked_none : (text : List ℕ) (e : SignatureError) (ts : List WireType) → IsChecked text (Err e) → IsSignature ts text → ⊥
checked_none text (BadSignature at) ts h k = bad_none text at ts h k
checked_none text (TooDeep at) ts h k = deep_none text at ts h k
checked_none text Memory ts h k = h

pub checked_reading : (text : List ℕ) (e : SignatureError) → IsChecked text (Err e) → IsReading text (Err e)
checked_reading text (BadSignature at) h = h
checked_reading text (TooDeep at) h = h
checked_reading text Memory h = absurd h

-- ---- the check

pub reading_checked : (text : List ℕ) (e : SignatureError) → (e ≡ Memory → ⊥) → IsReading text (Err e) → IsChecked text (Err e)
reading_checked text (BadSignature at) no_memory h = h
reading_checked text (TooDeep at) no_memory h = h
reading_checked text Memory no_memory h = absurd (no_memory refl)

pub stops_no_memory : (text : List ℕ) (e : SignatureError) → whole_at 32 32 text ≡ Err e → e ≡ Memory → ⊥
stops_no_memory text e is m = go (subst (ListOut 32 32 text []) (is ∙ ap (λ (d : SignatureError). Err d) m) (whole_out text))
  where
    go : ListStops Memory text (Fits 32 32) Any → ⊥
    go s = after s.rest s.ends
      where
        after : (rest : List ℕ) → ListAfter Memory (Fits 32 32) Any s.front rest → ⊥
        after [] h = h
        after (b ∷ r) h = h.0

pub short_checked : (text : List ℕ) (r : Result (Unit {0}) SignatureError) → length text ≤ 255 → Tells (λ u. u) r (passed (whole_at 32 32 text)) → IsChecked text r
short_checked text r le h = go (whole_at 32 32 text) refl r h
  where
    go : (w : Result (List WireType) SignatureError) → whole_at 32 32 text ≡ w → (r : Result (Unit {0}) SignatureError) → Tells (λ u. u) r (passed w) → IsChecked text r
    go (Ok ts) is (Ok u) h = (ts, short_reading text (Ok ts) le is)
    go (Ok ts) is (Err e) h = absurd (subst Good h tt)
      where
        Good : Result (Unit {0}) SignatureError → Type 0
        Good (Ok u) = Unit {0}
        Good (Err e) = ⊥
    go (Err d) is (Ok u) h = absurd (subst Bad h tt)
      where
        Bad : Result (Unit {0}) SignatureError → Type 0
        Bad (Ok u) = ⊥
        Bad (Err e) = Unit {0}
    go (Err d) is (Err e) h = subst (λ (x : SignatureError). IsChecked text (Err x)) (ap (λ (x : Result (Unit {0}) SignatureError). error x) h) (reading_checked text d (stops_no_memory text d is) (short_reading text (Err d) le is))
      where
        error : Result (Unit {0}) SignatureError → SignatureError
        error (Ok u) = Memory
        error (Err x) = x

pub long_stopped : (text : List ℕ) (e : SignatureError) → 255 < length text → passed (whole_at 32 32 (take 255 text)) ≡ Err e → IsChecked text (Err e)
long_stopped text e lt h = go (whole_at 32 32 (take 255 text)) refl h
  where
    go : (w : Result (List WireType) SignatureError) → whole_at 32 32 (take 255 text) ≡ w → passed w ≡ Err e → IsChecked text (Err e)
    go (Ok ts) is h = absurd (subst Good h tt)
      where
        Good : Result (Unit {0}) SignatureError → Type 0
        Good (Ok u) = Unit {0}
        Good (Err e) = ⊥
    go (Err d) is h = subst (λ (x : SignatureError). IsChecked text (Err x)) (ap (λ (x : Result (Unit {0}) SignatureError). error x) h) (reading_checked text d (stops_no_memory (take 255 text) d is) (long_reading text (Err d) lt is))
      where
        error : Result (Unit {0}) SignatureError → SignatureError
        error (Ok u) = Memory
        error (Err x) = x

pub long_passed : (text : List ℕ) → 255 < length text → passed (whole_at 32 32 (take 255 text)) ≡ Ok tt → IsChecked text (Err (BadSignature 255))
long_passed text lt h = go (whole_at 32 32 (take 255 text)) refl h
  where
    go : (w : Result (List WireType) SignatureError) → whole_at 32 32 (take 255 text) ≡ w → passed w ≡ Ok tt → IsChecked text (Err (BadSignature 255))
    go (Ok ts) is h = long_reading text (Ok ts) lt is
    go (Err d) is h = absurd (subst Bad h tt)
      where
        Bad : Result (Unit {0}) SignatureError → Type 0
        Bad (Ok u) = ⊥
        Bad (Err e) = Unit {0}

pub cut_len : (text : List ℕ) → 255 < length text → length (take 255 text) ≡ 255
cut_len text lt = omega (arith, lt, length-take 255 text)

-- ---- the reader

pub read_only : (text : List ℕ) (ts : List WireType) (r : Result (List WireType) SignatureError) → IsSignature ts text → Gives (λ us. us) r (whole_at 32 32 text) → IsReadAs ts r
read_only text ts r k h = go r (subst (Gives (λ us. us) r) (whole_again ts text k.1 k.0) h)
  where
    go : (r : Result (List WireType) SignatureError) → Gives (λ us. us) r (Ok ts) → IsReadAs ts r
    go (Ok us) h = sym (ap types h)
      where
        types : Result (List WireType) SignatureError → List WireType
        types (Ok vs) = vs
        types (Err e) = ts
    go (Err Memory) h = tt
    go (Err (BadSignature at)) h = absurd (subst Good h tt)
      where
        Good : Result (List WireType) SignatureError → Type 0
        Good (Ok u) = Unit {0}
        Good (Err e) = ⊥
    go (Err (TooDeep at)) h = absurd (subst Good h tt)
      where
        Good : Result (List WireType) SignatureError → Type 0
        Good (Ok u) = Unit {0}
        Good (Err e) = ⊥

pub read_reading : (text : List ℕ) (r : Result (List WireType) SignatureError) → length text ≤ 255 → Gives (λ us. us) r (whole_at 32 32 text) → IsReading text r
read_reading text (Ok ts) le h = short_reading text (Ok ts) le h
read_reading text (Err Memory) le h = tt
read_reading text (Err (BadSignature at)) le h = short_reading text (Err (BadSignature at)) le h
read_reading text (Err (TooDeep at)) le h = short_reading text (Err (TooDeep at)) le h
