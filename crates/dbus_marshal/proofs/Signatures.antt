-- Signatures in values.
use Rattle.std.proofs.Common.{◌≡◌, ℕ, ◌≤◌, List, length, ◌+◌, Result, Ok, Err, refl, ap, subst, ◌∙◌}
use Rattle.std.specs.Prelude.{IfOk}
use Rattle.dbus_types.specs.declared.errors.SignatureError.{SignatureError}
use Rattle.dbus_types.specs.declared.types.WireType.{WireType}
use Rattle.dbus_basic.specs.declared.error.ReadError.TheVariants.{BadSignature, TooDeep}
use Rattle.dbus_types.specs.Reading.{whole_at, single_at, passed}
use Rattle.dbus_values.specs.Values.{IsSignatureText}
use Rattle.dbus_types.specs.Types.{type_text, IsVariantType, IsSignature}
use Rattle.dbus_types.proofs.WholeSignatures.{short_reading, whole_again}
use Rattle.dbus_types.specs.Breaks.{IsChecked, IsSingleReading}
use Rattle.dbus_types.proofs.OneTypeRead.{single_reading, single_again}
use Rattle.dbus_types.proofs.OneBreak.{single_from_left, checked_from_left}
use Rattle.dbus_marshal.specs.Reads.{moved, checked_in, type_in}

listed_is : (text : List ℕ) (ts : List WireType) → whole_at 32 32 text ≡ Ok ts → length text ≤ 255 → IsSignature ts text
listed_is text ts is short = short_reading text (Ok ts) short is

is_listed : (text : List ℕ) (ts : List WireType) → IsSignature ts text → whole_at 32 32 text ≡ Ok ts
is_listed text ts is = whole_again ts text is.1 is.0

found : {X : Type 0} (at : ℕ) (r : Result X SignatureError) (P : X → Type 0) → ((x : X) → r ≡ Ok x → P x) → IfOk (moved at r) P
found at (Ok x) P h = h x refl
found at (Err (SignatureError.BadSignature k)) P h = tt
found at (Err (SignatureError.TooDeep k)) P h = tt
found at (Err SignatureError.Memory) P h = tt

pub types_took : (at : ℕ) (text : List ℕ) → length text ≤ 255 → IfOk (checked_in at text) (λ checked. IsSignatureText text)
unfolding checked_in
types_took at text short = go (whole_at 32 32 text) refl
  where
    go : (r : Result (List WireType) SignatureError) → whole_at 32 32 text ≡ r → IfOk (moved at (passed r)) (λ checked. IsSignatureText text)
    go (Ok ts) is = (ts, listed_is text ts is short)
    go (Err (SignatureError.BadSignature k)) is = tt
    go (Err (SignatureError.TooDeep k)) is = tt
    go (Err SignatureError.Memory) is = tt

pub type_took : (at : ℕ) (text : List ℕ) → length text ≤ 255 → IfOk (type_in at text) (λ t. IsVariantType t × (text ≡ type_text t))
unfolding type_in
type_took at text short = found at (single_at 32 32 text) (λ t. IsVariantType t × (text ≡ type_text t)) (λ t is.
    let k = single_reading text (Ok t) is in
    ((k.0, subst (λ (w : List ℕ). length w ≤ 255) k.1 short), k.1))

pub types_again : (at : ℕ) (text : List ℕ) (ts : List WireType) → IsSignature ts text → checked_in at text ≡ Ok tt
unfolding checked_in
types_again at text ts h = rw (is_listed text ts h) refl

pub type_again : (at : ℕ) (t : WireType) → IsVariantType t → type_in at (type_text t) ≡ Ok t
unfolding type_in
type_again at t h = rw (single_again t h.0) refl

-- ---- what a check and a reading of a whole text answer

pub checked_ok : (at : ℕ) (text : List ℕ) → length text ≤ 255 → IsChecked text (Ok tt) → checked_in at text ≡ Ok tt
unfolding checked_in
checked_ok at text short h = ap (moved at) (checked_from_left text (Ok tt) short h)

pub checked_bad : (at k : ℕ) (text : List ℕ) → length text ≤ 255 → (e : SignatureError) → e ≡ SignatureError.BadSignature k → IsChecked text (Err e) → checked_in at text ≡ Err (BadSignature (at + k))
unfolding checked_in
checked_bad at k text short e is h = ap (moved at) (checked_from_left text (Err e) short h ∙ ap (λ x. Err x) is)

pub checked_deep : (at k : ℕ) (text : List ℕ) → length text ≤ 255 → (e : SignatureError) → e ≡ SignatureError.TooDeep k → IsChecked text (Err e) → checked_in at text ≡ Err (TooDeep (at + k))
unfolding checked_in
checked_deep at k text short e is h = ap (moved at) (checked_from_left text (Err e) short h ∙ ap (λ x. Err x) is)

pub single_ok : (at : ℕ) (text : List ℕ) (t : WireType) → IsSingleReading text (Ok t) → type_in at text ≡ Ok t
unfolding type_in
single_ok at text t h = ap (moved at) (single_from_left text (Ok t) h)

read_as : (text : List ℕ) (e d : SignatureError) → e ≡ d → IsSingleReading text (Err e) → IsSingleReading text (Err d)
read_as text e d is h = subst (λ (x : SignatureError). IsSingleReading text (Err x)) is h

pub single_bad : (at k : ℕ) (text : List ℕ) (e : SignatureError) → e ≡ SignatureError.BadSignature k → IsSingleReading text (Err e) → type_in at text ≡ Err (BadSignature (at + k))
unfolding type_in
single_bad at k text e is h = ap (moved at) (single_from_left text (Err (SignatureError.BadSignature k)) (read_as text e (SignatureError.BadSignature k) is h))

pub single_deep : (at k : ℕ) (text : List ℕ) (e : SignatureError) → e ≡ SignatureError.TooDeep k → IsSingleReading text (Err e) → type_in at text ≡ Err (TooDeep (at + k))
unfolding type_in
single_deep at k text e is h = ap (moved at) (single_from_left text (Err (SignatureError.TooDeep k)) (read_as text e (SignatureError.TooDeep k) is h))
