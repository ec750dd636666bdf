-- What a reader took from the front.
use Rattle.std.proofs.Common.{◌≡◌, ℕ, zero, suc, ◌+◌, ◌^◌, ◌<◌, Bool, true, false, cond, ltb, List, [], ◌∷◌, ◌++◌, length, get_or, take, drop, replicate, Result, Ok, Err, refl, sym, ap, subst, ◌∙◌, append_assoc, arith, inl, inr}
use Rattle.std.specs.Prelude.{IfOk}
use Rattle.std.specs.Int.{Width, w16, w32, w64, byte_len}
use mir.Val.{bits}
use Rattle.std.proofs.lemmas.Result.{IfOk-weaker}
use Rattle.std.proofs.lemmas.Bool.{cases_lt, ltb-false, le-ltb}
use Rattle.std.proofs.lemmas.List.{take_at, drop_at, take-append-drop, length-append, length-take, get_or_past, get_or-append-add, get_or_append_left}
use Rattle.std.proofs.lemmas.Nat.{le_bytes_2, be_bytes_2, from_le_bytes-to_le_bytes_2, from_be_bytes-to_be_bytes_2, le_bytes_4, be_bytes_4, from_le_bytes-to_le_bytes_4, from_be_bytes-to_be_bytes_4, le_bytes_8, be_bytes_8, from_le_bytes-to_le_bytes_8, from_be_bytes-to_be_bytes_8}
use Rattle.dbus_types.specs.declared.types.Endian.{Endian}
use Rattle.dbus_types.specs.declared.types.Endian.TheVariants.{Little, Big}
use Rattle.dbus_basic.specs.declared.error.ReadError.{ReadError}
use Rattle.dbus_basic.specs.declared.error.ReadError.TheVariants.{Short}
use Rattle.dbus_values.specs.Spells.{number}
use Rattle.dbus_basic.specs.Reading.{◌>>=◌}
use Rattle.dbus_basic.specs.Fields.{zeros, taken, number_at, byte_at, ended, from_number}

abbrev pub IsBytes : List ℕ → Type 0
IsBytes bytes = (i : ℕ) → get_or bytes i 0 < 256

pub bytes_after : (text rest : List ℕ) → IsBytes (text ++ rest) → IsBytes rest
bytes_after text rest h i = subst (λ (k : ℕ). k < 256) (get_or-append-add text rest i 0) (h (length text + i))

pub bytes_before : (text rest : List ℕ) → IsBytes (text ++ rest) → IsBytes text
bytes_before text rest h i =
    elim (cases_lt i (length text)) [
      | inl lt ↦ subst (λ (k : ℕ). k < 256) (get_or_append_left text rest 0 i lt) (h i)
      | inr le ↦ rw (get_or_past text i 0 (omega arith)) (omega arith)
    ]

-- P holds of what was taken from the front of the bytes, up to next, where rest stands
pub record Took (P : List ℕ → Type 0) (at : ℕ) (bytes : List ℕ) (next : ℕ) (rest : List ℕ) : Type 0 where
  pub text : List ℕ
  pub parts : bytes ≡ text ++ rest
  pub place : next ≡ at + length text
  pub holds : P text
  pub fits : IsBytes rest

pub took : (P : List ℕ → Type 0) (at : ℕ) (bytes text rest : List ℕ) (next : ℕ) → IsBytes bytes → bytes ≡ text ++ rest → next ≡ at + length text → P text → Took P at bytes next rest
took P at bytes text rest next fits parts place holds = record { text = text; parts = parts; place = place; holds = holds; fits = bytes_after text rest (subst IsBytes parts fits) }

-- first what P says, and then what Q says of its own offset
abbrev pub Then : ℕ → (List ℕ → Type 0) → (ℕ → List ℕ → Type 0) → List ℕ → Type 0
Then at P Q text = (first rest : List ℕ) × (text ≡ first ++ rest) × P first × Q (at + length first) rest

pub took_then : (P : List ℕ → Type 0) (Q : ℕ → List ℕ → Type 0) (at : ℕ) (bytes : List ℕ) (next : ℕ) (rest : List ℕ) (end : ℕ) (last : List ℕ) → Took P at bytes next rest → Took (Q next) next rest end last → Took (Then at P Q) at bytes end last
took_then P Q at bytes next rest end last a b = record {
  text = a.text ++ b.text;
  parts = a.parts ∙ (ap (λ (x : List ℕ). a.text ++ x) b.parts ∙ sym (append_assoc a.text b.text last));
  place = omega (arith, a.place, b.place, length-append a.text b.text);
  holds = (a.text, b.text, refl, a.holds, subst (λ (k : ℕ). Q k b.text) a.place b.holds);
  fits = b.fits;
}

pub took_as : (P Q : List ℕ → Type 0) (at : ℕ) (bytes : List ℕ) (next : ℕ) (rest : List ℕ) → Took P at bytes next rest → ((text : List ℕ) → P text → Q text) → Took Q at bytes next rest
took_as P Q at bytes next rest a f = record { text = a.text; parts = a.parts; place = a.place; holds = f a.text a.holds; fits = a.fits }

-- what holds of a step's answer leads to what holds of the whole
pub bind : {A B : Type 0} (P : A → Type 0) (Q : B → Type 0) (r : Result A ReadError) (f : A → Result B ReadError) → IfOk r P → ((x : A) → P x → IfOk (f x) Q) → IfOk (r >>= f) Q
bind P Q (Ok x) f h k = k x h
bind P Q (Err e) f h k = tt

pub guard : {A : Type 0} (Q : A → Type 0) (b : Bool) (e : ReadError) (r : Result A ReadError) → (b ≡ false → IfOk r Q) → IfOk (cond b (Err e) r) Q
guard Q true e r h = tt
guard Q false e r h = h refl

pub guard_then : {A : Type 0} (Q : A → Type 0) (b : Bool) (e : ReadError) (r : Result A ReadError) → (b ≡ true → IfOk r Q) → IfOk (cond b r (Err e)) Q
guard_then Q true e r h = h refl
guard_then Q false e r h = tt

pub zeros_took : (n at : ℕ) (bytes : List ℕ) → IsBytes bytes → IfOk (zeros n at bytes) (λ x. Took (λ text. text ≡ replicate n 0) at bytes x.0 x.1)
unfolding zeros
zeros_took zero at bytes fits = took _ at bytes [] bytes at fits refl (omega arith) refl
zeros_took (suc n) at [] fits = tt
zeros_took (suc n) at (zero ∷ bytes) fits =
    IfOk-weaker (zeros n (at + 1) bytes) _ (λ x. Took (λ text. text ≡ replicate (suc n) 0) at (zero ∷ bytes) x.0 x.1)
    (λ x t. took _ at (zero ∷ bytes) (zero ∷ t.text) x.1 x.0 fits (ap (λ (b : List ℕ). zero ∷ b) t.parts) (omega (arith, t.place)) (ap (λ (b : List ℕ). zero ∷ b) t.holds))
    (zeros_took n (at + 1) bytes (λ i. fits (suc i)))
zeros_took (suc n) at (suc b ∷ bytes) fits = tt

pub zeros_again : (n at : ℕ) (rest : List ℕ) → zeros n at (replicate n 0 ++ rest) ≡ Ok (at + n, rest)
unfolding zeros
zeros_again zero at rest = rw (let e : at + 0 ≡ at = omega arith in e) refl
zeros_again (suc n) at rest = zeros_again n (at + 1) rest ∙ rw (let e : at + 1 + n ≡ at + suc n = omega arith in e) refl

pub taken_took : (n at : ℕ) (bytes : List ℕ) → IsBytes bytes → IfOk (taken n at bytes) (λ x. Took (λ text. (text ≡ x.0) × (length text ≡ n)) at bytes x.1 x.2)
unfolding taken
taken_took n at bytes fits = guard _ (ltb (length bytes) n) (Short at) (Ok (take n bytes, at + n, drop n bytes)) (λ long.
    let e : length (take n bytes) ≡ n = omega (arith, length-take n bytes, ltb-false _ _ long) in
    took _ at bytes (take n bytes) (drop n bytes) (at + n) fits (sym (take-append-drop n bytes)) (omega (arith, e)) (refl, e))

pub taken_again : (n at : ℕ) (text rest : List ℕ) → length text ≡ n → taken n at (text ++ rest) ≡ Ok (text, at + n, rest)
unfolding taken
taken_again n at text rest e =
    let long : ltb (length (text ++ rest)) n ≡ false = le-ltb _ _ (omega (arith, length-append text rest, e)) in
    rw (long, take_at text rest n e, drop_at text rest n e) refl

pub byte_took : (at : ℕ) (bytes : List ℕ) → IsBytes bytes → IfOk (byte_at at bytes) (λ x. Took (λ text. (text ≡ x.0 ∷ []) × (x.0 < 256)) at bytes x.1 x.2)
unfolding byte_at
byte_took at [] fits = tt
byte_took at (b ∷ bytes) fits = took _ at (b ∷ bytes) (b ∷ []) bytes (at + 1) fits refl (omega arith) (refl, fits 0)

pub ended_took : (e : ReadError) (at : ℕ) (bytes : List ℕ) → IsBytes bytes → IfOk (ended e at bytes) (λ x. Took (λ text. text ≡ 0 ∷ []) at bytes x.0 x.1)
unfolding ended
ended_took e at [] fits = tt
ended_took e at (zero ∷ bytes) fits = took _ at (zero ∷ bytes) (zero ∷ []) bytes (at + 1) fits refl (omega arith) refl
ended_took e at (suc b ∷ bytes) fits = tt

-- ---- numbers

-- the widths of numbers that are spelled
pub data Wide : Type 0 where
  two : Wide
  four : Wide
  eight : Wide

abbrev pub width : Wide → Width
width two = w16
width four = w32
width eight = w64

abbrev pub size : Wide → ℕ
size two = 2
size four = 4
size eight = 8

pub number_len : (e : Endian) (k : Wide) (n : ℕ) → length (number e (width k) n) ≡ size k
number_len Little two n = refl
number_len Little four n = refl
number_len Little eight n = refl
number_len Big two n = refl
number_len Big four n = refl
number_len Big eight n = refl

number_back : (e : Endian) (k : Wide) (bytes : List ℕ) → length bytes ≡ size k → IsBytes bytes → number e (width k) (from_number e (width k) bytes) ≡ bytes
number_back Little two bytes len fits = le_bytes_2 bytes _ len fits refl
number_back Little four bytes len fits = le_bytes_4 bytes _ len fits refl
number_back Little eight bytes len fits = le_bytes_8 bytes _ len fits refl
number_back Big two bytes len fits = be_bytes_2 bytes _ len fits refl
number_back Big four bytes len fits = be_bytes_4 bytes _ len fits refl
number_back Big eight bytes len fits = be_bytes_8 bytes _ len fits refl

number_again' : (e : Endian) (k : Wide) (n : ℕ) → n < 2 ^ bits (width k) → from_number e (width k) (number e (width k) n) ≡ n
number_again' Little two n lt = from_le_bytes-to_le_bytes_2 n lt
number_again' Little four n lt = from_le_bytes-to_le_bytes_4 n lt
number_again' Little eight n lt = from_le_bytes-to_le_bytes_8 n lt
number_again' Big two n lt = from_be_bytes-to_be_bytes_2 n lt
number_again' Big four n lt = from_be_bytes-to_be_bytes_4 n lt
number_again' Big eight n lt = from_be_bytes-to_be_bytes_8 n lt

number_below : (e : Endian) (k : Wide) (bytes : List ℕ) → IsBytes bytes → from_number e (width k) bytes < 2 ^ bits (width k)
number_below Little two bytes fits = omega (arith, fits 0, fits 1)
number_below Little four bytes fits = omega (arith, fits 0, fits 1, fits 2, fits 3)
number_below Little eight bytes fits = omega (arith, fits 0, fits 1, fits 2, fits 3, fits 4, fits 5, fits 6, fits 7)
number_below Big two bytes fits = omega (arith, fits 0, fits 1)
number_below Big four bytes fits = omega (arith, fits 0, fits 1, fits 2, fits 3)
number_below Big eight bytes fits = omega (arith, fits 0, fits 1, fits 2, fits 3, fits 4, fits 5, fits 6, fits 7)

pub len_is : (k : Wide) → byte_len (width k) ≡ size k
len_is two = refl
len_is four = refl
len_is eight = refl

pub number_took : (e : Endian) (k : Wide) (at : ℕ) (bytes : List ℕ) → IsBytes bytes → IfOk (number_at e (width k) at bytes) (λ x. Took (λ text. (text ≡ number e (width k) x.0) × (x.0 < 2 ^ bits (width k))) at bytes x.1 x.2)
unfolding number_at
number_took e k at bytes fits = bind (λ x. Took (λ text. (text ≡ x.0) × (length text ≡ byte_len (width k))) at bytes x.1 x.2) _ (taken (byte_len (width k)) at bytes) _ (taken_took (byte_len (width k)) at bytes fits) (λ x t.
    let front : IsBytes x.0 = subst IsBytes t.holds.0 (bytes_before t.text x.2 (subst IsBytes t.parts fits)) in
    let len : length x.0 ≡ size k = subst (λ (b : List ℕ). length b ≡ byte_len (width k)) t.holds.0 t.holds.1 ∙ len_is k in
    took_as _ _ at bytes x.1 x.2 t (λ text h. (h.0 ∙ sym (number_back e k x.0 len front), number_below e k x.0 front)))

pub number_again : (e : Endian) (k : Wide) (at n : ℕ) (rest : List ℕ) → n < 2 ^ bits (width k) → number_at e (width k) at (number e (width k) n ++ rest) ≡ Ok (n, at + size k, rest)
unfolding number_at
number_again e k at n rest lt = rw (len_is k, taken_again (size k) at (number e (width k) n) rest (number_len e k n), number_again' e k n lt) refl
