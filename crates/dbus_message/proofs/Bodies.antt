-- Values that are read one after another.
use Rattle.std.proofs.Common.{◌≡◌, ℕ, ◌+◌, ◌-◌, ◌≤◌, List, [], ◌∷◌, ◌++◌, length, take, drop, Err, refl, sym, ap, subst, ◌∙◌, append_assoc, append-nil, arith}
use Rattle.std.proofs.lemmas.List.{take-append-drop, drop-drop, drop_at, length-take-le, length-drop, drop_all}
use Rattle.dbus_types.specs.declared.types.Endian.{Endian}
use Rattle.dbus_types.specs.declared.types.WireType.{WireType}
use Rattle.dbus_types.specs.declared.types.Value.{Value}
use Rattle.dbus_values.specs.Spells.{Spells, Members}
use Rattle.dbus_basic.specs.declared.error.ReadError.{ReadError}
use Rattle.dbus_basic.specs.declared.error.ReadError.TheVariants.{Short, Padding, BadBool, BadText, TooLong, BadSignature, TooDeep, BadArray, Memory}
use Rattle.dbus_basic.specs.Reading.{IsRead}
use Rattle.dbus_message.specs.Content.{IsBody}
use Rattle.dbus_message.specs.Errors.{error_of}
use Rattle.dbus_message.specs.Answers.{FindsOne, IsReadBody}

abbrev pub Spelled : Endian → WireType → ℕ → Value → List ℕ → Type 0
Spelled e t at v text = Spells e at t v text

-- These values were read up to here, and the types that are left begin here.
pub record Ahead (e : Endian) (bytes : List ℕ) (types : List WireType) (values : List Value) (next : ℕ) (left : List WireType) : Type 0 where
  pub place : next ≤ length bytes
  pub forth : (more : List Value) → Members (Spelled e) left more next (drop next bytes) → IsBody e types (values ++ more) bytes
  pub back : (all : List Value) → IsBody e types all bytes → (more : List Value) × (all ≡ values ++ more) × Members (Spelled e) left more next (drop next bytes)

pub start : (e : Endian) (bytes : List ℕ) (types : List WireType) → Ahead e bytes types [] 0 types
start e bytes types = record { place = omega arith; forth = λ more h. h; back = λ all h. (all, refl, h) }

joins : (e : Endian) (bytes : List ℕ) (t : WireType) (us : List WireType) (v : Value) (at next : ℕ) (more : List Value) → at ≤ next → next ≤ length bytes → Spells e at t v (take (next - at) (drop at bytes))
    → Members (Spelled e) us more next (drop next bytes) → Members (Spelled e) (t ∷ us) (v ∷ more) at (drop at bytes)
joins e bytes t us v at next more low high h rest =
    let first : List ℕ = take (next - at) (drop at bytes) in
    let len : at + length first ≡ next = omega (arith, length-take-le {A = ℕ} (next - at) (drop at bytes) (omega (arith, length-drop {A = ℕ} at bytes, low, high)), low) in
    let behind : drop (next - at) (drop at bytes) ≡ drop next bytes = drop-drop (next - at) at bytes ∙ ap (λ (k : ℕ). drop k bytes) (omega (arith, low)) in
    (first, drop next bytes, sym (take-append-drop (next - at) (drop at bytes)) ∙ ap (λ (w : List ℕ). first ++ w) behind, h, subst (λ (k : ℕ). Members (Spelled e) us more k (drop next bytes)) (sym len) rest)

parts : (e : Endian) (bytes : List ℕ) (t : WireType) (us : List WireType) (v : Value) (at next : ℕ) → ((w : Value) (text rest : List ℕ) → Spells e at t w text → drop at bytes ≡ text ++ rest → (v ≡ w) × (next ≡ at + length text))
    → (more : List Value) → Members (Spelled e) (t ∷ us) more at (drop at bytes) → (later : List Value) × (more ≡ v ∷ later) × Members (Spelled e) us later next (drop next bytes)
parts e bytes t us v at next only [] h = absurd h
parts e bytes t us v at next only (w ∷ later) h =
    let same = only w h.0 h.1 h.3 h.2 in
    let behind : h.1 ≡ drop next bytes = sym (drop_at h.0 h.1 (length h.0) refl) ∙ (ap (λ (x : List ℕ). drop (length h.0) x) (sym h.2) ∙ (drop-drop (length h.0) at bytes ∙ ap (λ (k : ℕ). drop k bytes) (omega (arith, same.1)))) in
    (later, ap (λ (x : Value). x ∷ later) (sym same.0), subst (λ (k : ℕ). Members (Spelled e) us later k (drop next bytes)) (sym same.1) (subst (λ (x : List ℕ). Members (Spelled e) us later (at + length h.0) x) behind h.4))

pub step : (e : Endian) (bytes : List ℕ) (types : List WireType) (values : List Value) (at : ℕ) (t : WireType) (us : List WireType) (v : Value) (next : ℕ) → Ahead e bytes types values at (t ∷ us)
    → at ≤ next → next ≤ length bytes → Spells e at t v (take (next - at) (drop at bytes)) → ((w : Value) (text rest : List ℕ) → Spells e at t w text → drop at bytes ≡ text ++ rest → (v ≡ w) × (next ≡ at + length text))
    → Ahead e bytes types (values ++ v ∷ []) next us
step e bytes types values at t us v next a low high h only = record {
  place = high;
  forth = λ more rest. subst (λ (x : List Value). IsBody e types x bytes) (sym (append_assoc values (v ∷ []) more)) (a.forth (v ∷ more) (joins e bytes t us v at next more low high h rest));
  back = λ all is.
      let old = a.back all is in
      let new = parts e bytes t us v at next only old.0 old.2 in
      (new.0, old.1 ∙ (ap (λ (x : List Value). values ++ x) new.1 ∙ sym (append_assoc values (v ∷ []) new.0)), new.2);
}

-- at the end of the types
pub done : (e : Endian) (bytes : List ℕ) (types : List WireType) (values : List Value) (next : ℕ) → Ahead e bytes types values next [] → next ≡ length bytes
    → IsBody e types values bytes × ((all : List Value) → IsBody e types all bytes → all ≡ values)
done e bytes types values next a end = (subst (λ (x : List Value). IsBody e types x bytes) (append-nil values) (a.forth [] (drop_all next bytes (omega (arith, end)))), λ all is. let old = a.back all is in old.1 ∙ (ap (λ (x : List Value). values ++ x) (nothing old.0 old.2) ∙ append-nil values))
  where
    nothing : (more : List Value) → Members (Spelled e) [] more next (drop next bytes) → more ≡ []
    nothing [] h = refl
    nothing (w ∷ later) h = absurd h

-- bytes that are left
pub short : (e : Endian) (bytes : List ℕ) (types : List WireType) (values : List Value) (next : ℕ) → Ahead e bytes types values next [] → next + 1 ≤ length bytes → (all : List Value) → IsBody e types all bytes → ⊥
short e bytes types values next a left all is = let old = a.back all is in no old.0 old.2
  where
    no : (more : List Value) → Members (Spelled e) [] more next (drop next bytes) → ⊥
    no [] h = absurd (omega (arith, left, ap length h, length-drop {A = ℕ} next bytes))
    no (w ∷ later) h = h

-- where a reading failed and something should have been read, the rule is broken
pub refused : {X Y : Type 0} (P : X → Type 0) (Q : Y → Type 0) (rule : ℕ) (d : ReadError) → ((x : X) → P x → IsRead {X = Y} (Err d) Q) → FindsOne P (λ n. n ≡ rule) (Err (error_of rule d))
refused P Q rule (Short at) h = (h, refl)
refused P Q rule (Padding at) h = (h, refl)
refused P Q rule (BadBool at) h = (h, refl)
refused P Q rule (BadText at) h = (h, refl)
refused P Q rule (TooLong at) h = (h, refl)
refused P Q rule (BadSignature at) h = (h, refl)
refused P Q rule (TooDeep at) h = (h, refl)
refused P Q rule (BadArray at) h = (h, refl)
refused P Q rule Memory h = tt

pub weak : {Y : Type 0} (d : ReadError) (P Q : Y → Type 0) → IsRead (Err d) P → IsRead (Err d) Q
weak (Short at) P Q h = h
weak (Padding at) P Q h = h
weak (BadBool at) P Q h = h
weak (BadText at) P Q h = h
weak (TooLong at) P Q h = h
weak (BadSignature at) P Q h = h
weak (TooDeep at) P Q h = h
weak (BadArray at) P Q h = h
weak Memory P Q h = tt

pub none : {Y : Type 0} (e : Endian) (bytes : List ℕ) (types : List WireType) (values : List Value) (at : ℕ) (t : WireType) (us : List WireType) (d : ReadError) (Q : Value → List ℕ → Y → Type 0) → Ahead e bytes types values at (t ∷ us)
    → ((w : Value) (text rest : List ℕ) → Spells e at t w text → drop at bytes ≡ text ++ rest → IsRead (Err d) (Q w text)) → IsReadBody e bytes types (Err (error_of 10 d))
none {Y = Y} e bytes types values at t us d Q a never = refused (λ (all : List Value). IsBody e types all bytes) (λ (y : Y). Unit {0}) 10 d (λ all is. let old = a.back all is in no d never old.0 old.2)
  where
    no : (d : ReadError) → ((w : Value) (text rest : List ℕ) → Spells e at t w text → drop at bytes ≡ text ++ rest → IsRead {X = Y} (Err d) (Q w text)) → (more : List Value) → Members (Spelled e) (t ∷ us) more at (drop at bytes) → IsRead {X = Y} (Err d) (λ y. Unit {0})
    no d never [] h = absurd h
    no d never (w ∷ later) h = weak d (Q w h.0) (λ y. Unit {0}) (never w h.0 h.1 h.3 h.2)
