-- Where a step of reading stops is where the bytes go wrong, for the pieces that values are spelled with.
use Rattle.std.proofs.Common.{◌≡◌, ℕ, zero, suc, ◌+◌, ◌^◌, ◌<◌, Bool, true, false, cond, ltb, List, [], ◌∷◌, ◌++◌, length, take, drop, replicate, Result, Ok, Err, refl, sym, ap, subst, ◌∙◌, arith, inl, inr}
use Rattle.std.specs.Prelude.{◌⊎◌}
use Rattle.std.proofs.lemmas.Result.{IfOk-at_ok}
use Rattle.std.proofs.lemmas.Bool.{ltb-true, lt-ltb}
use Rattle.std.proofs.lemmas.List.{length-replicate}
use Rattle.std.specs.Int.{byte_len}
use mir.Val.{bits}
use Rattle.dbus_types.specs.declared.types.Endian.{Endian}
use Rattle.dbus_basic.specs.declared.error.ReadError.{ReadError}
use Rattle.dbus_basic.specs.declared.error.ReadError.TheVariants.{Short, Padding, BadBool}
use Rattle.dbus_values.specs.Spells.{number, gap}
use Rattle.dbus_marshal.specs.Breaks.{Break, Ends, Behind, ZerosBreak, AlignedBreaks, ByteBreaks, NumberBreaks, BytesBreak, ZeroBreaks}
use Rattle.dbus_basic.specs.Reading.{◌>>=◌}
use Rattle.dbus_basic.specs.Fields.{zeros, padded, taken, number_at, byte_at, ended, truth}
use Rattle.dbus_marshal.proofs.TakenFronts.{Wide, width, size, IsBytes, bytes_before, bytes_after, Took, zeros_took, zeros_again, taken_took, taken_again, number_took, number_again, number_len, len_is}

-- it stops with just the errors of which D holds
abbrev pub Exact : {X : Type 0} → Result X ReadError → (ReadError → Type 0) → Type 0
Exact r D = (d : ReadError) → (r ≡ Err d → D d) × (D d → r ≡ Err d)

abbrev done : {A : Type 0} → A → Result A ReadError
done x = Ok x

abbrev failed : (A : Type 0) → ReadError → Result A ReadError
failed A e = Err e

pub not_ok : {A B : Type 0} (x : A) (d : ReadError) → done x ≡ Err d → B
not_ok x d e = absurd cc

pub err_is : {A : Type 0} (a b : ReadError) → failed A a ≡ Err b → a ≡ b
err_is a b e = cc

pub through : {A B : Type 0} (D : ReadError → Type 0) (r : Result A ReadError) (f : A → Result B ReadError) → ((e : ReadError) → r ≡ Err e → D e) → ((x : A) → r ≡ Ok x → (d : ReadError) → f x ≡ Err d → D d) → (d : ReadError) → (r >>= f) ≡ Err d → D d
through {A = A} D (Ok x) f halt go d eq = go x refl d eq
through {A = A} {B = B} D (Err e) f halt go d eq = halt d (ap (failed A) (err_is {A = B} e d eq))

pub stop_is : {A B : Type 0} (r : Result A ReadError) (f : A → Result B ReadError) (d : ReadError) → r ≡ Err d → (r >>= f) ≡ Err d
stop_is r f d eq = rw eq refl

pub go_is : {A B : Type 0} (r : Result A ReadError) (f : A → Result B ReadError) (x : A) (y : Result B ReadError) → r ≡ Ok x → f x ≡ y → (r >>= f) ≡ y
go_is r f x y e h = rw e h

pub exact_as : {X : Type 0} (r : Result X ReadError) (D E : ReadError → Type 0) → ((d : ReadError) → D d → E d) → ((d : ReadError) → E d → D d) → Exact r D → Exact r E
exact_as r D E f g h d = ((λ eq. f d ((h d).0 eq)), (λ e. (h d).1 (g d e)))

pub ok_exact : {X : Type 0} (x : X) → Exact (done x) (λ d. ⊥)
ok_exact x d = ((λ eq. not_ok x d eq), (λ h. absurd h))

-- a value is made of what was read
pub made_exact : {X Y : Type 0} (r : Result X ReadError) (f : X → Y) (D : ReadError → Type 0) → Exact r D → Exact (r >>= λ x. done (f x)) D
made_exact r f D h d = (through D r (λ x. done (f x)) (λ e eq. (h e).0 eq) (λ x eq d stop. not_ok (f x) d stop) d, (λ k. stop_is r (λ x. done (f x)) d ((h d).1 k)))

-- ---- zero bytes

zeros_halt : (n at : ℕ) (bytes : List ℕ) (d : ReadError) → zeros n at bytes ≡ Err d → ZerosBreak n at bytes d
unfolding zeros
zeros_halt zero at bytes d eq = not_ok (at, bytes) d eq
zeros_halt (suc n) at [] d eq =
    let p : at ≡ at + 0 = omega arith in
    (0, omega arith, inl (refl, sym (err_is {A = ℕ × List ℕ} (Short at) d eq) ∙ ap Short p))
zeros_halt (suc n) at (zero ∷ bytes) d eq =
    let h = zeros_halt n (at + 1) bytes d eq in
    let p : at + 1 + h.0 ≡ at + suc h.0 = omega arith in (
      suc h.0,
      omega (arith, h.1),
      elim h.2 [
        | inl e ↦ inl (ap (λ (w : List ℕ). 0 ∷ w) e.0, e.1 ∙ ap Short p)
        | inr b ↦ inr (b.0, b.1, ap (λ (w : List ℕ). 0 ∷ w) b.2, b.3 ∙ ap Padding p)
      ],
    )
zeros_halt (suc n) at (suc b ∷ bytes) d eq =
    let p : at ≡ at + 0 = omega arith in
    (0, omega arith, inr (b, bytes, refl, sym (err_is {A = ℕ × List ℕ} (Padding at) d eq) ∙ ap Padding p))

zeros_short : (k n at : ℕ) → k < n → zeros n at (replicate k 0) ≡ Err (Short (at + k))
unfolding zeros
zeros_short zero zero at lt = absurd (omega (arith, lt))
zeros_short zero (suc n) at lt = let p : at ≡ at + 0 = omega arith in ap (λ (i : ℕ). failed (ℕ × List ℕ) (Short i)) p
zeros_short (suc k) zero at lt = absurd (omega (arith, lt))
zeros_short (suc k) (suc n) at lt = let p : at + 1 + k ≡ at + suc k = omega arith in zeros_short k n (at + 1) (omega (arith, lt)) ∙ ap (λ (i : ℕ). failed (ℕ × List ℕ) (Short i)) p

zeros_other : (k n at b : ℕ) (rest : List ℕ) → k < n → zeros n at (replicate k 0 ++ suc b ∷ rest) ≡ Err (Padding (at + k))
unfolding zeros
zeros_other zero zero at b rest lt = absurd (omega (arith, lt))
zeros_other zero (suc n) at b rest lt = let p : at ≡ at + 0 = omega arith in ap (λ (i : ℕ). failed (ℕ × List ℕ) (Padding i)) p
zeros_other (suc k) zero at b rest lt = absurd (omega (arith, lt))
zeros_other (suc k) (suc n) at b rest lt = let p : at + 1 + k ≡ at + suc k = omega arith in zeros_other k n (at + 1) b rest (omega (arith, lt)) ∙ ap (λ (i : ℕ). failed (ℕ × List ℕ) (Padding i)) p

zeros_back : (n at : ℕ) (bytes : List ℕ) (d : ReadError) → ZerosBreak n at bytes d → zeros n at bytes ≡ Err d
zeros_back n at bytes d h = elim h.2 [
  | inl e ↦ ap (zeros n at) e.0 ∙ (zeros_short h.0 n at h.1 ∙ ap (failed (ℕ × List ℕ)) (sym e.1))
  | inr b ↦ ap (zeros n at) b.2 ∙ (zeros_other h.0 n at b.0 b.1 h.1 ∙ ap (failed (ℕ × List ℕ)) (sym b.3))
]

zeros_exact : {X : Type 0} (n at : ℕ) (bytes : List ℕ) (f : ℕ × List ℕ → Result X ReadError) (Rest : Break) → IsBytes bytes
    → ((next : ℕ) (rest : List ℕ) → IsBytes rest → Exact (f (next, rest)) (Rest next rest))
    → Exact (zeros n at bytes >>= f) (λ d. ZerosBreak n at bytes d ⊎ Behind (λ front. front ≡ replicate n 0) Rest at bytes d)
zeros_exact n at bytes f Rest fits inner d = (
  through (λ d. ZerosBreak n at bytes d ⊎ Behind (λ front. front ≡ replicate n 0) Rest at bytes d) (zeros n at bytes) f
      (λ e eq. inl (zeros_halt n at bytes e eq))
      (λ x eq d stop.
      let t : Took (λ text. text ≡ replicate n 0) at bytes x.0 x.1 = IfOk-at_ok (λ y. Took (λ text. text ≡ replicate n 0) at bytes y.0 y.1) eq (zeros_took n at bytes fits) in
      inr (t.text, x.1, t.parts, t.holds, subst (λ (k : ℕ). Rest k x.1 d) t.place ((inner x.0 x.1 t.fits d).0 stop)))
      d,
  λ h. elim h [
    | inl z ↦ stop_is (zeros n at bytes) f d (zeros_back n at bytes d z)
    | inr b ↦
        let len : at + length b.0 ≡ at + n = omega (arith, ap length b.3, length-replicate {A = ℕ} n 0) in
        go_is (zeros n at bytes) f (at + n, b.1) (Err d) (ap (zeros n at) (b.2 ∙ ap (λ (w : List ℕ). w ++ b.1) b.3) ∙ zeros_again n at b.1)
        ((inner (at + n) b.1 (bytes_after b.0 b.1 (subst IsBytes b.2 fits)) d).1 (subst (λ (k : ℕ). Rest k b.1 d) len b.4))
  ],
)

-- a body behind padding
pub aligned_exact : {X : Type 0} (to at : ℕ) (bytes : List ℕ) (f : ℕ × List ℕ → Result X ReadError) (Body : Break) → IsBytes bytes
    → ((start : ℕ) (rest : List ℕ) → IsBytes rest → Exact (f (start, rest)) (Body start rest))
    → Exact (padded to at bytes >>= f) (AlignedBreaks to Body at bytes)
aligned_exact to at bytes f Body fits inner = zeros_exact (gap to at) at bytes f Body fits inner

-- ---- so many bytes

taken_halt : (n at : ℕ) (bytes : List ℕ) (d : ReadError) → taken n at bytes ≡ Err d → Ends n at bytes d
unfolding taken
taken_halt n at bytes d eq = go (ltb (length bytes) n) refl eq
  where
    go : (b : Bool) → ltb (length bytes) n ≡ b → cond b (failed (List ℕ × ℕ × List ℕ) (Short at)) (Ok (take n bytes, at + n, drop n bytes)) ≡ Err d → Ends n at bytes d
    go true is eq = (ltb-true (length bytes) n is, sym (err_is {A = List ℕ × ℕ × List ℕ} (Short at) d eq))
    go false is eq = not_ok (take n bytes, at + n, drop n bytes) d eq

taken_back : (n at : ℕ) (bytes : List ℕ) (d : ReadError) → Ends n at bytes d → taken n at bytes ≡ Err d
unfolding taken
taken_back n at bytes d h = rw (lt-ltb (length bytes) n h.0) (ap (failed (List ℕ × ℕ × List ℕ)) (sym h.1))

pub taken_exact : {X : Type 0} (n at : ℕ) (bytes : List ℕ) (f : List ℕ × ℕ × List ℕ → Result X ReadError) (Rest : List ℕ → Break) → IsBytes bytes
    → ((text rest : List ℕ) → length text ≡ n → IsBytes text → IsBytes rest → Exact (f (text, at + n, rest)) (Rest text at rest))
    → Exact (taken n at bytes >>= f) (BytesBreak n Rest at bytes)
taken_exact n at bytes f Rest fits inner d = (
  through (BytesBreak n Rest at bytes) (taken n at bytes) f
      (λ e eq. inl (taken_halt n at bytes e eq))
      (λ x eq d stop.
      let t : Took (λ text. (text ≡ x.0) × (length text ≡ n)) at bytes x.1 x.2 = IfOk-at_ok (λ y. Took (λ text. (text ≡ y.0) × (length text ≡ n)) at bytes y.1 y.2) eq (taken_took n at bytes fits) in
      let parts : bytes ≡ x.0 ++ x.2 = t.parts ∙ ap (λ (w : List ℕ). w ++ x.2) t.holds.0 in
      let len : length x.0 ≡ n = sym (ap length t.holds.0) ∙ t.holds.1 in
      let place : x.1 ≡ at + n = omega (arith, t.place, t.holds.1) in
      inr (x.0, x.2, parts, len, (inner x.0 x.2 len (bytes_before x.0 x.2 (subst IsBytes parts fits)) t.fits d).0 (subst (λ (k : ℕ). f (x.0, k, x.2) ≡ Err d) place stop)))
      d,
  λ h. elim h [
    | inl z ↦ stop_is (taken n at bytes) f d (taken_back n at bytes d z)
    | inr b ↦
        let whole = subst IsBytes b.2 fits in
        go_is (taken n at bytes) f (b.0, at + n, b.1) (Err d) (ap (taken n at) b.2 ∙ taken_again n at b.0 b.1 b.3)
        ((inner b.0 b.1 b.3 (bytes_before b.0 b.1 whole) (bytes_after b.0 b.1 whole) d).1 b.4)
  ],
)

-- ---- a number

number_halt : (e : Endian) (k : Wide) (at : ℕ) (bytes : List ℕ) (d : ReadError) → number_at e (width k) at bytes ≡ Err d → Ends (size k) at bytes d
unfolding number_at
number_halt e k at bytes d eq = subst (λ (n : ℕ). Ends n at bytes d) (len_is k)
    (through (λ d. Ends (byte_len (width k)) at bytes d) (taken (byte_len (width k)) at bytes) _ (λ e eq. taken_halt (byte_len (width k)) at bytes e eq) (λ x eq d stop. not_ok _ d stop) d eq)

number_back : (e : Endian) (k : Wide) (at : ℕ) (bytes : List ℕ) (d : ReadError) → Ends (size k) at bytes d → number_at e (width k) at bytes ≡ Err d
unfolding number_at
number_back e k at bytes d h = stop_is (taken (byte_len (width k)) at bytes) _ d (taken_back (byte_len (width k)) at bytes d (subst (λ (n : ℕ). Ends n at bytes d) (sym (len_is k)) h))

pub number_only : {X : Type 0} (e : Endian) (k : Wide) (f : ℕ → X) (at : ℕ) (bytes : List ℕ) → IsBytes bytes → Exact {X = X × ℕ × List ℕ} (number_at e (width k) at bytes >>= λ n. Ok (f n.0, n.1, n.2)) (Ends (size k) at bytes)
number_only e k f at bytes fits d = (
  through (Ends (size k) at bytes) (number_at e (width k) at bytes) _ (λ e' eq. number_halt e k at bytes e' eq) (λ x eq d stop. not_ok (f x.0, x.1, x.2) d stop) d,
  λ h. stop_is (number_at e (width k) at bytes) _ d (number_back e k at bytes d h),
)

pub number_exact : {X : Type 0} (e : Endian) (k : Wide) (at : ℕ) (bytes : List ℕ) (f : ℕ × ℕ × List ℕ → Result X ReadError) (Rest : ℕ → Break) → IsBytes bytes
    → ((n next : ℕ) (rest : List ℕ) → IsBytes rest → n < 2 ^ bits (width k) → Exact (f (n, next, rest)) (Rest n next rest))
    → Exact (number_at e (width k) at bytes >>= f) (NumberBreaks e (width k) Rest at bytes)
number_exact e k at bytes f Rest fits inner d = (
  through (NumberBreaks e (width k) Rest at bytes) (number_at e (width k) at bytes) f
      (λ e' eq. inl (subst (λ (n : ℕ). Ends n at bytes e') (sym (len_is k)) (number_halt e k at bytes e' eq)))
      (λ x eq d stop.
      let t : Took (λ text. (text ≡ number e (width k) x.0) × (x.0 < 2 ^ bits (width k))) at bytes x.1 x.2 = IfOk-at_ok (λ y. Took (λ text. (text ≡ number e (width k) y.0) × (y.0 < 2 ^ bits (width k))) at bytes y.1 y.2) eq (number_took e k at bytes fits) in
      inr (x.0, t.holds.1, (t.text, x.2, t.parts, t.holds.0, subst (λ (i : ℕ). Rest x.0 i x.2 d) t.place ((inner x.0 x.1 x.2 t.fits t.holds.1 d).0 stop))))
      d,
  λ h. elim h [
    | inl z ↦ stop_is (number_at e (width k) at bytes) f d (number_back e k at bytes d (subst (λ (n : ℕ). Ends n at bytes d) (len_is k) z))
    | inr b ↦
        let c = b.2 in
        let len : at + length c.0 ≡ at + size k = omega (arith, ap length c.3, number_len e k b.0) in
        go_is (number_at e (width k) at bytes) f (b.0, at + size k, c.1) (Err d) (ap (number_at e (width k) at) (c.2 ∙ ap (λ (w : List ℕ). w ++ c.1) c.3) ∙ number_again e k at b.0 c.1 b.1)
        ((inner b.0 (at + size k) c.1 (bytes_after c.0 c.1 (subst IsBytes c.2 fits)) b.1 d).1 (subst (λ (i : ℕ). Rest b.0 i c.1 d) len c.4))
  ],
)

-- ---- one byte

pub byte_exact : {X : Type 0} (at : ℕ) (bytes : List ℕ) (f : ℕ × ℕ × List ℕ → Result X ReadError) (Rest : ℕ → Break) → IsBytes bytes
    → ((b : ℕ) (rest : List ℕ) → IsBytes rest → b < 256 → Exact (f (b, at + 1, rest)) (Rest b (at + 1) rest))
    → Exact (byte_at at bytes >>= f) (ByteBreaks Rest at bytes)
unfolding byte_at
byte_exact {X = X} at [] f Rest fits inner d = (
  λ eq. inl (omega arith, sym (err_is {A = X} (Short at) d eq)),
  λ h. elim h [
    | inl z ↦ ap (failed X) (sym z.1)
    | inr b ↦ absurd (omega (arith, ap length b.2))
  ],
)
byte_exact at (c ∷ bytes) f Rest fits inner d = (
  λ eq. inr (c, bytes, refl, (inner c bytes (λ i. fits (suc i)) (fits 0) d).0 eq),
  λ h. elim h [
    | inl z ↦ absurd (omega (arith, z.0))
    | inr b ↦
        let whole : IsBytes (b.0 ∷ b.1) = subst IsBytes b.2 fits in
        ap (λ (w : List ℕ). byte_at at w >>= f) b.2 ∙ (inner b.0 b.1 (λ i. whole (suc i)) (whole 0) d).1 b.3
  ],
)

-- ---- the zero byte behind a text

head_is : (a b : ℕ) (xs ys : List ℕ) → a ∷ xs ≡ b ∷ ys → a ≡ b
head_is a b xs ys e = cc

pub ended_exact : {X : Type 0} (other : ReadError) (at : ℕ) (bytes : List ℕ) (f : ℕ × List ℕ → Result X ReadError) (Rest : Break) → IsBytes bytes
    → ((rest : List ℕ) → IsBytes rest → Exact (f (at + 1, rest)) (Rest (at + 1) rest))
    → Exact (ended other at bytes >>= f) (ZeroBreaks other Rest at bytes)
unfolding ended
ended_exact {X = X} other at [] f Rest fits inner d = (
  λ eq. inl (omega arith, sym (err_is {A = X} (Short at) d eq)),
  λ h. elim h [
    | inl z ↦ ap (failed X) (sym z.1)
    | inr y ↦ elim y [
      | inl b ↦ absurd (omega (arith, ap length b.2))
      | inr r ↦ absurd (omega (arith, ap length r.1))
    ]
  ],
)
ended_exact other at (zero ∷ bytes) f Rest fits inner d = (
  λ eq. inr (inr (bytes, refl, (inner bytes (λ i. fits (suc i)) d).0 eq)),
  λ h. elim h [
    | inl z ↦ absurd (omega (arith, z.0))
    | inr y ↦ elim y [
      | inl b ↦ absurd (omega (arith, head_is 0 (suc b.0) bytes b.1 b.2))
      | inr r ↦
          let whole : IsBytes (0 ∷ r.0) = subst IsBytes r.1 fits in
          ap (λ (w : List ℕ). ended other at w >>= f) r.1 ∙ (inner r.0 (λ i. whole (suc i)) d).1 r.2
    ]
  ],
)
ended_exact {X = X} other at (suc c ∷ bytes) f Rest fits inner d = (
  λ eq. inr (inl (c, bytes, refl, sym (err_is {A = X} other d eq))),
  λ h. elim h [
    | inl z ↦ absurd (omega (arith, z.0))
    | inr y ↦ elim y [
      | inl b ↦ ap (failed X) (sym b.3)
      | inr r ↦ absurd (omega (arith, head_is (suc c) 0 bytes r.0 r.1))
    ]
  ],
)

-- ---- a choice

different : {A : Type 0} (b : Bool) → b ≡ true → b ≡ false → A
different b t f = absurd cc

pub when_exact : {X : Type 0} (b : Bool) (e : ReadError) (r : Result X ReadError) (Yes No : Type 0) (D : ReadError → Type 0) → (b ≡ true → Yes) → (Yes → b ≡ true) → (b ≡ false → No) → (No → b ≡ false) → (b ≡ false → Exact r D)
    → Exact (cond b (Err e) r) (λ d. (Yes × (d ≡ e)) ⊎ (No × D d))
when_exact {X = X} true e r Yes No D so so' other other' inner d = (
  λ eq. inl (so refl, sym (err_is {A = X} e d eq)),
  λ h. elim h [ inl y ↦ ap (failed X) (sym y.1) | inr n ↦ different true refl (other' n.0) ],
)
when_exact {X = X} false e r Yes No D so so' other other' inner d = (
  λ eq. inr (other refl, (inner refl d).0 eq),
  λ h. elim h [ inl y ↦ different false (so' y.0) refl | inr n ↦ (inner refl d).1 n.1 ],
)

pub unless_exact : {X : Type 0} (b : Bool) (e : ReadError) (r : Result X ReadError) (Yes No : Type 0) (D : ReadError → Type 0) → (b ≡ true → Yes) → (Yes → b ≡ true) → (b ≡ false → No) → (No → b ≡ false) → (b ≡ true → Exact r D)
    → Exact (cond b r (Err e)) (λ d. (No × (d ≡ e)) ⊎ (Yes × D d))
unless_exact {X = X} false e r Yes No D so so' other other' inner d = (
  λ eq. inl (other refl, sym (err_is {A = X} e d eq)),
  λ h. elim h [ inl n ↦ ap (failed X) (sym n.1) | inr y ↦ different false (so' y.0) refl ],
)
unless_exact {X = X} true e r Yes No D so so' other other' inner d = (
  λ eq. inr (so refl, (inner refl d).0 eq),
  λ h. elim h [ inl n ↦ different true refl (other' n.0) | inr y ↦ (inner refl d).1 y.1 ],
)

pub truth_exact : {X : Type 0} (at n : ℕ) (f : Bool → X) → Exact (truth at n >>= λ b. done (f b)) (λ d. (1 < n) × (d ≡ BadBool at))
unfolding truth
truth_exact at zero f d = ((λ eq. not_ok (f false) d eq), (λ h. absurd (omega (arith, h.0))))
truth_exact at (suc zero) f d = ((λ eq. not_ok (f true) d eq), (λ h. absurd (omega (arith, h.0))))
truth_exact {X = X} at (suc (suc n)) f d = ((λ eq. (omega arith, sym (err_is {A = X} (BadBool at) d eq))), (λ h. ap (failed X) (sym h.1)))
