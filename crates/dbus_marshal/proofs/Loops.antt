-- The loops over members and elements, one at a time.
use Rattle.std.proofs.Common.{◌≡◌, ℕ, zero, suc, ◌+◌, ◌-◌, ◌<◌, ◌≤◌, false, ltb, List, [], ◌∷◌, ◌++◌, length, get_or, drop, Result, Ok, Err, refl, sym, ap, subst, append_assoc, append-nil, drop-cons, add-one, arith}
use Rattle.std.specs.Int.{w32}
use Rattle.std.proofs.lemmas.List.{length-drop}
use Rattle.std.proofs.Math.ListN.{drop_of_length-le}
use Rattle.dbus_types.specs.declared.types.Endian.{Endian}
use Rattle.dbus_types.specs.declared.types.WireType.{WireType}
use Rattle.dbus_types.specs.declared.types.WireType.TheOpen.{WireType-F}
use Rattle.dbus_types.specs.declared.types.Value.{Value}
use Rattle.dbus_basic.specs.declared.error.ReadError.{ReadError}
use Rattle.dbus_basic.specs.declared.error.ReadError.TheVariants.{Short, Padding, BadBool, BadText, TooLong, BadSignature, TooDeep, BadArray, Memory}
use Rattle.dbus_types.specs.Types.{alignment}
use Rattle.dbus_values.specs.Values.{array_of}
use Rattle.dbus_basic.specs.Reading.{◌>>=◌, Fails, Read, after}
use Rattle.dbus_basic.specs.Fields.{padded, taken, number_at}
use Rattle.dbus_marshal.specs.Reads.{joined, members, listed, elements, array_error, arrayed, within_array, layer}

at_item : {A : Type 0} (xs : List A) (i : ℕ) (x : A) → i < length xs → x ≡ get_or xs i x → drop i xs ≡ x ∷ drop (i + 1) xs
at_item xs i x lt e = rw (drop-cons xs i x lt, ← e, add-one) refl

pub fails_as : {A B : Type 0} (e : ReadError) (r : Result A ReadError) (f : Result A ReadError → Result B ReadError) → ((d : ReadError) → f (Err d) ≡ Err d) → Fails e r → Fails e (f r)
fails_as Memory r f keeps h = tt
fails_as (Short at) r f keeps h = rw h (keeps (Short at))
fails_as (Padding at) r f keeps h = rw h (keeps (Padding at))
fails_as (BadBool at) r f keeps h = rw h (keeps (BadBool at))
fails_as (BadText at) r f keeps h = rw h (keeps (BadText at))
fails_as (TooLong at) r f keeps h = rw h (keeps (TooLong at))
fails_as (BadSignature at) r f keeps h = rw h (keeps (BadSignature at))
fails_as (TooDeep at) r f keeps h = rw h (keeps (TooDeep at))
fails_as (BadArray at) r f keeps h = rw h (keeps (BadArray at))

joined_again : (vs : List Value) (v : Value) (x : Read (List Value)) → joined vs (joined (v ∷ []) x) ≡ joined (vs ++ v ∷ []) x
joined_again vs v (Ok x) = ap (λ (l : List Value). Ok (l, x.1, x.2)) (sym (append_assoc vs (v ∷ []) x.0))
joined_again vs v (Err e) = refl

listed_again : (vs : List Value) (v : Value) (x : Result (List Value) ReadError) → listed vs (listed (v ∷ []) x) ≡ listed (vs ++ v ∷ []) x
listed_again vs v (Ok x) = ap (λ (l : List Value). Ok l) (sym (append_assoc vs (v ∷ []) x))
listed_again vs v (Err e) = refl

module _ (r : WireType → ℕ → List ℕ → Read Value) (bytes : List ℕ) (ts : List WireType) (i : ℕ) (vs : List Value) (next : ℕ) where
  pub members_step : (t : WireType) (v : Value) (end : ℕ) → i < length ts → t ≡ get_or ts i t → r t next (drop next bytes) ≡ Ok (after bytes (v, end))
      → joined vs (members r (drop i ts) next (drop next bytes)) ≡ joined (vs ++ v ∷ []) (members r (drop (i + 1) ts) end (drop end bytes))
  unfolding members
  members_step t v end lt e is = rw (at_item ts i t lt e, is) (joined_again vs v (members r (drop (i + 1) ts) end (drop end bytes)))

  pub members_end : length ts ≤ i → joined vs (members r (drop i ts) next (drop next bytes)) ≡ Ok (after bytes (vs, next))
  unfolding members
  members_end le = rw (drop_of_length-le ts le) (ap (λ (l : List Value). Ok (l, next, drop next bytes)) (append-nil vs))

  pub members_fails : (t : WireType) (e : ReadError) → i < length ts → t ≡ get_or ts i t → Fails e (r t next (drop next bytes)) → Fails e (joined vs (members r (drop i ts) next (drop next bytes)))
  unfolding members
  members_fails t e lt is h = subst (λ (l : List WireType). Fails e (joined vs (members r l next (drop next bytes)))) (sym (at_item ts i t lt is))
      (fails_as e (r t next (drop next bytes)) (λ x. joined vs (x >>= λ first. joined (first.0 ∷ []) (members r (drop (i + 1) ts) first.1 first.2))) (λ d. refl) h)

module _ (f : ℕ → List ℕ → Read Value) (bytes : List ℕ) (vs : List Value) (next : ℕ) where
  elements_cell : (n b : ℕ) (rest : List ℕ) → suc (length rest) ≤ n → elements n f next (b ∷ rest) ≡ (f next (b ∷ rest) >>= λ first. listed (first.0 ∷ []) (elements (n - 1) f first.1 first.2))
  unfolding elements
  elements_cell zero b rest le = absurd (omega (arith, le))
  elements_cell (suc n) b rest le = let e : suc n - 1 ≡ n = omega arith in rw e refl

  elements_more : (n : ℕ) → next < length bytes → length (drop next bytes) ≤ n → elements n f next (drop next bytes) ≡ (f next (drop next bytes) >>= λ first. listed (first.0 ∷ []) (elements (n - 1) f first.1 first.2))
  elements_more n lt le =
      let cell = drop-cons bytes next 0 lt in
      rw cell (elements_cell n (get_or bytes next 0) (drop (suc next) bytes) (omega (arith, le, ap length cell)))

  pub elements_step : (n : ℕ) (v : Value) (end : ℕ) → next < length bytes → next < end → f next (drop next bytes) ≡ Ok (after bytes (v, end)) → length (drop next bytes) ≤ n
      → (m : ℕ) × (length (drop end bytes) ≤ m) × (listed vs (elements n f next (drop next bytes)) ≡ listed (vs ++ v ∷ []) (elements m f end (drop end bytes)))
  elements_step n v end lt on is le = (
    n - 1,
    omega (arith, le, length-drop next bytes, length-drop end bytes),
    rw (elements_more n lt le, is) (listed_again vs v (elements (n - 1) f end (drop end bytes))),
  )

  no_more : (n : ℕ) → elements n f next [] ≡ Ok []
  unfolding elements
  no_more zero = refl
  no_more (suc n) = refl

  pub elements_end : (n : ℕ) → length bytes ≤ next → listed vs (elements n f next (drop next bytes)) ≡ Ok vs
  elements_end n le = rw (drop_of_length-le bytes le, no_more n) (ap (λ (l : List Value). Ok l) (append-nil vs))

  pub elements_fails : (n : ℕ) (e : ReadError) → next < length bytes → length (drop next bytes) ≤ n → Fails e (f next (drop next bytes)) → Fails e (listed vs (elements n f next (drop next bytes)))
  elements_fails n e lt le h = subst (λ (x : Result (List Value) ReadError). Fails e (listed vs x)) (sym (elements_more n lt le))
      (fails_as e (f next (drop next bytes)) (λ x. listed vs (x >>= λ first. listed (first.0 ∷ []) (elements (n - 1) f first.1 first.2))) (λ d. refl) h)

-- what an array's reading comes to, where all but its elements is there
pub array_is : (r : WireType → ℕ → List ℕ → Read Value) (e : Endian) (t : WireType) (at : ℕ) (rest : List ℕ) (start : ℕ × List ℕ) (n : ℕ × ℕ × List ℕ) (from : ℕ × List ℕ) (body : List ℕ × ℕ × List ℕ)
    → padded 4 at rest ≡ Ok start → number_at e w32 start.0 start.1 ≡ Ok n → ltb 67_108_864 n.0 ≡ false → padded (alignment t) n.1 n.2 ≡ Ok from → taken n.0 from.0 from.1 ≡ Ok body
    → layer r e (WireType-F.Array t) at rest ≡ (within_array (elements (length body.0) (r t) from.0 body.0) >>= λ vs. Ok (array_of t vs, body.1, body.2))
unfolding layer
array_is r e t at rest start n from body a b c d f = rw (a, b, c, d, f) refl

pub array_fails : {B : Type 0} (e : ReadError) (x : Result (List Value) ReadError) (f : List Value → Result B ReadError) → Fails e x → Fails (array_error e) (within_array x >>= f)
array_fails Memory x f h = tt
array_fails (Short at) x f h = rw h refl
array_fails (Padding at) x f h = rw h refl
array_fails (BadBool at) x f h = rw h refl
array_fails (BadText at) x f h = rw h refl
array_fails (TooLong at) x f h = rw h refl
array_fails (BadSignature at) x f h = rw h refl
array_fails (TooDeep at) x f h = rw h refl
array_fails (BadArray at) x f h = rw h refl

-- an array that was read, and the place after it
abbrev with_place : WireType → ℕ → List ℕ → List Value → Read Value
with_place t next rest vs = Ok (array_of t vs, next, rest)

abbrev told : ℕ → List ℕ → Value → Read Value
told next rest v = Ok (v, next, rest)

pub array_read : (t : WireType) (x : Result (List Value) ReadError) (v : Value) (next : ℕ) (rest : List ℕ) → arrayed t x ≡ Ok v → (within_array x >>= with_place t next rest) ≡ told next rest v
array_read t (Ok vs) v next rest is = ap (λ (w : Result Value ReadError). w >>= told next rest) is
array_read t (Err e) v next rest is = absurd cc

abbrev unmade : Result Value ReadError → Result (List Value) ReadError
unmade (Ok v) = Ok []
unmade (Err e) = Err e

arrayed_fails : (t : WireType) (x : Result (List Value) ReadError) (e : ReadError) → arrayed t x ≡ Err e → x ≡ Err e
arrayed_fails t (Ok vs) e is = absurd cc
arrayed_fails t (Err d) e is = ap unmade is

-- where no array was read, the elements weren't
pub no_elements : (t : WireType) (x : Result (List Value) ReadError) (e : ReadError) → Fails e (arrayed t x) → Fails e x
no_elements t x Memory h = tt
no_elements t x (Short at) h = arrayed_fails t x (Short at) h
no_elements t x (Padding at) h = arrayed_fails t x (Padding at) h
no_elements t x (BadBool at) h = arrayed_fails t x (BadBool at) h
no_elements t x (BadText at) h = arrayed_fails t x (BadText at) h
no_elements t x (TooLong at) h = arrayed_fails t x (TooLong at) h
no_elements t x (BadSignature at) h = arrayed_fails t x (BadSignature at) h
no_elements t x (TooDeep at) h = arrayed_fails t x (TooDeep at) h
no_elements t x (BadArray at) h = arrayed_fails t x (BadArray at) h
