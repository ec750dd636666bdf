-- What is read is what is spelled.
use Rattle.std.proofs.Common.{◌≡◌, ℕ, ◌+◌, ◌-◌, ◌<◌, ◌≤◌, List, ◌++◌, length, take, drop, Result, Ok, Err, refl, sym, ap, subst, ◌∙◌, arith, inl, inr}
use Rattle.std.specs.Prelude.{◌⊎◌, All}
use Rattle.std.proofs.lemmas.Bool.{cases_lt}
use Rattle.std.proofs.lemmas.Result.{IfOk-at_ok}
use Rattle.std.proofs.lemmas.List.{take_at, get_or_past}
use Rattle.dbus_types.specs.declared.types.Endian.{Endian}
use Rattle.dbus_types.specs.declared.types.WireType.{WireType}
use Rattle.dbus_types.specs.declared.types.Value.{Value}
use Rattle.dbus_basic.specs.declared.error.ReadError.{ReadError}
use Rattle.dbus_basic.specs.declared.error.ReadError.TheVariants.{Short, Padding, BadBool, BadText, TooLong, BadSignature, TooDeep, BadArray, Memory}
use Rattle.dbus_values.specs.Spells.{Spells}
use Rattle.dbus_marshal.specs.Breaks.{Breaks}
use Rattle.dbus_basic.specs.Reading.{Fails, IsRead, IsStopped, IsRefused, Read, after}
use Rattle.dbus_marshal.specs.Reads.{reads}
use Rattle.dbus_marshal.proofs.TakenFronts.{IsBytes, bytes_after, Took}
use Rattle.dbus_marshal.proofs.ReadIsSpelled.{reads_took}
use Rattle.dbus_marshal.proofs.SpelledIsRead.{reads_again, ok_is}
use Rattle.dbus_marshal.proofs.StepBreaks.{not_ok, err_is}
use Rattle.dbus_marshal.proofs.FirstBreak.{reads_exact}
use Rattle.std.proofs.lemmas.List.{take-append-drop}

pub is_found : (e : Endian) (t : WireType) (bytes : List ℕ) (at : ℕ) (v : Value) (next : ℕ) → IsBytes bytes → reads 65 e t at (drop at bytes) ≡ Ok (after bytes (v, next))
    → (at ≤ next) × Spells e at t v (take (next - at) (drop at bytes))
is_found e t bytes at v next fits is =
    let tail : IsBytes (drop at bytes) = bytes_after (take at bytes) (drop at bytes) (subst IsBytes (sym (take-append-drop at bytes)) fits) in
    let k : Took (Spells e at t v) at (drop at bytes) next (drop next bytes) = IfOk-at_ok (λ x. Took (Spells e at t x.0) at (drop at bytes) x.1 x.2) is (reads_took 64 e t at (drop at bytes) tail) in
    let len : length k.text ≡ next - at = omega (arith, k.place) in
    let front : take (next - at) (drop at bytes) ≡ k.text = ap (λ (w : List ℕ). take (next - at) w) k.parts ∙ take_at k.text (drop next bytes) (next - at) len in
    (omega (arith, k.place), subst (Spells e at t v) (sym front) k.holds)

pub is_only : (e : Endian) (t : WireType) (bytes : List ℕ) (at : ℕ) (v : Value) (next : ℕ) → reads 65 e t at (drop at bytes) ≡ Ok (after bytes (v, next))
    → (w : Value) (text rest : List ℕ) → Spells e at t w text → drop at bytes ≡ text ++ rest → (v ≡ w) × (next ≡ at + length text)
is_only e t bytes at v next is w text rest h parts =
    let pair = ok_is (after bytes (v, next)) (w, at + length text, rest) (sym is ∙ (ap (reads 65 e t at) parts ∙ reads_again 64 e t at w text rest h)) in
    (ap (λ (p : Value × ℕ × List ℕ). p.0) pair, ap (λ (p : Value × ℕ × List ℕ). p.1) pair)

never : {X Y : Type 0} (e : ReadError) (x : Y) (P : X → Type 0) → Fails e (Ok x) → IsRead (Err e) P
never Memory x P h = tt
never (Short at) x P h = absurd cc
never (Padding at) x P h = absurd cc
never (BadBool at) x P h = absurd cc
never (BadText at) x P h = absurd cc
never (TooLong at) x P h = absurd cc
never (BadSignature at) x P h = absurd cc
never (TooDeep at) x P h = absurd cc
never (BadArray at) x P h = absurd cc

pub is_no_error : {X : Type 0} (e : Endian) (t : WireType) (bytes : List ℕ) (at : ℕ) (d : ReadError) → Fails d (reads 65 e t at (drop at bytes))
    → (w : Value) (text rest : List ℕ) → Spells e at t w text → drop at bytes ≡ text ++ rest → (P : X → Type 0) → IsRead (Err d) P
is_no_error e t bytes at d fails w text rest h parts P =
    never d (w, at + length text, rest) P (subst (Fails d) (ap (reads 65 e t at) parts ∙ reads_again 64 e t at w text rest h) fails)

-- ---- where it goes wrong

tail_bytes : (at : ℕ) (bytes : List ℕ) → IsBytes bytes → IsBytes (drop at bytes)
tail_bytes at bytes fits = bytes_after (take at bytes) (drop at bytes) (subst IsBytes (sym (take-append-drop at bytes)) fits)

pub is_broken : (X : Type 0) (e : Endian) (t : WireType) (bytes : List ℕ) (at : ℕ) (d : ReadError) → IsBytes bytes → Fails d (reads 65 e t at (drop at bytes)) → IsStopped {X = X} (Err d) (λ error. Breaks e at t (drop at bytes) error)
is_broken X e t bytes at Memory fits h = tt
is_broken X e t bytes at d fits h = (reads_exact 64 e t at (drop at bytes) (tail_bytes at bytes fits) d).0 h

pub is_none : (e : Endian) (t : WireType) (bytes : List ℕ) (at : ℕ) (x : Value × ℕ × List ℕ) → IsBytes bytes → reads 65 e t at (drop at bytes) ≡ Ok x → (error : ReadError) → Breaks e at t (drop at bytes) error → ⊥
is_none e t bytes at x fits is error h = not_ok x error (sym is ∙ (reads_exact 64 e t at (drop at bytes) (tail_bytes at bytes fits) error).1 h)

refused : {Y : Type 0} (X : Type 0) (d error : ReadError) (r : Result Y ReadError) → Fails d r → r ≡ Err error → IsRefused {X = X} error (Err d)
refused X Memory error r h is = tt
refused {Y = Y} X d error r h is = err_is {A = Y} d error (sym h ∙ is)

pub is_first : (X : Type 0) (e : Endian) (t : WireType) (bytes : List ℕ) (at : ℕ) (d : ReadError) → IsBytes bytes → Fails d (reads 65 e t at (drop at bytes)) → (error : ReadError) → Breaks e at t (drop at bytes) error → IsRefused {X = X} error (Err d)
is_first X e t bytes at d fits h error b = refused X d error (reads 65 e t at (drop at bytes)) h ((reads_exact 64 e t at (drop at bytes) (tail_bytes at bytes fits) error).1 b)

-- ---- spelled or broken

whole_bytes : (bytes : List ℕ) → All (λ b. b < 256) bytes → IsBytes bytes
whole_bytes bytes h i = elim (cases_lt i (length bytes)) [ inl lt ↦ h i 0 lt | inr le ↦ rw (get_or_past bytes i 0 le) (omega arith) ]

pub spelled_or_broken : (e : Endian) (at : ℕ) (t : WireType) (bytes : List ℕ) → All (λ b. b < 256) bytes
    → ((v : Value) × (text rest : List ℕ) × (bytes ≡ text ++ rest) × Spells e at t v text) ⊎ ((error : ReadError) × Breaks e at t bytes error)
spelled_or_broken e at t bytes fits = go (reads 65 e t at bytes) refl
  where
    go : (r : Read Value) → reads 65 e t at bytes ≡ r → ((v : Value) × (text rest : List ℕ) × (bytes ≡ text ++ rest) × Spells e at t v text) ⊎ ((error : ReadError) × Breaks e at t bytes error)
    go (Ok x) is =
        let k : Took (Spells e at t x.0) at bytes x.1 x.2 = IfOk-at_ok (λ y. Took (Spells e at t y.0) at bytes y.1 y.2) is (reads_took 64 e t at bytes (whole_bytes bytes fits)) in
        inl (x.0, k.text, x.2, k.parts, k.holds)
    go (Err d) is = inr (d, (reads_exact 64 e t at bytes (whole_bytes bytes fits) d).0 is)

pub broken_once : (e : Endian) (at : ℕ) (t : WireType) (bytes : List ℕ) (d other : ReadError) → All (λ b. b < 256) bytes → Breaks e at t bytes d → Breaks e at t bytes other → d ≡ other
broken_once e at t bytes d other fits h k =
    let x = reads_exact 64 e t at bytes (whole_bytes bytes fits) in
    err_is {A = Value × ℕ × List ℕ} d other (sym ((x d).1 h) ∙ (x other).1 k)

pub not_both : (e : Endian) (at : ℕ) (t : WireType) (v : Value) (text rest : List ℕ) (d : ReadError) → All (λ b. b < 256) (text ++ rest) → Spells e at t v text → Breaks e at t (text ++ rest) d → ⊥
not_both e at t v text rest d fits h k = not_ok (v, at + length text, rest) d (sym (reads_again 64 e t at v text rest h) ∙ (reads_exact 64 e t at (text ++ rest) (whole_bytes (text ++ rest) fits) d).1 k)
