-- Where a text that is no signature goes wrong.
use Rattle.std.specs.Prelude.{◌≡◌, ℕ, ◌+◌, ◌<◌, ◌≤◌, ◌⊎◌, List, ◌++◌, length, take, All, Result, Ok, Err}
use Rattle.dbus_types.specs.declared.types.WireType.{WireType}
use Rattle.dbus_types.specs.declared.errors.SignatureError.{SignatureError}
use Rattle.dbus_types.specs.declared.errors.SignatureError.TheVariants.{BadSignature, TooDeep, Memory}
use Rattle.dbus_types.specs.Types.{type_text, types_text, IsComplete, IsValidType, IsSignature}

-- The text of some types, each of which passes P, begins so.
abbrev pub Begins : (WireType → Type 0) → List ℕ → Type 0
Begins P front = (ts : List WireType) × (rest : List ℕ) × All P ts × (types_text ts ≡ front ++ rest)

-- Up to this place the text goes on as a signature does, and here it doesn't: it is longer than 255
-- bytes; or it ends too soon; or no types, however deep, have a text that goes on with this byte.
abbrev pub IsBadAt : List ℕ → ℕ → Type 0
IsBadAt text at = Begins IsValidType (take at text) × (((at ≡ 255) × (255 < length text))
    ⊎ (((at ≡ length text) × (at ≤ 255) × ((ts : List WireType) → IsSignature ts text → ⊥))
    ⊎ ((at < length text) × (at < 255) × (Begins IsComplete (take (at + 1) text) → ⊥))))

-- Up to this place the text goes on as a signature does, and with this byte only as types do that
-- nest too deep.
abbrev pub IsTooDeepAt : List ℕ → ℕ → Type 0
IsTooDeepAt text at = (at < length text) × (at < 255) × Begins IsValidType (take at text)
    × Begins IsComplete (take (at + 1) text) × (Begins IsValidType (take (at + 1) text) → ⊥)

-- what the reader of a signature answers
abbrev pub IsReading : List ℕ → Result (List WireType) SignatureError → Type 0
IsReading text (Ok ts) = IsSignature ts text
IsReading text (Err (BadSignature at)) = IsBadAt text at
IsReading text (Err (TooDeep at)) = IsTooDeepAt text at
IsReading text (Err Memory) = Unit {0}

-- It answers these types, unless memory ran out.
abbrev pub IsReadAs : List WireType → Result (List WireType) SignatureError → Type 0
IsReadAs ts (Ok us) = us ≡ ts
IsReadAs ts (Err Memory) = Unit {0}
IsReadAs ts (Err e) = ⊥

-- what the check of a signature answers, which takes no memory
abbrev pub IsChecked : List ℕ → Result (Unit {0}) SignatureError → Type 0
IsChecked text (Ok u) = (ts : List WireType) × IsSignature ts text
IsChecked text (Err (BadSignature at)) = IsBadAt text at
IsChecked text (Err (TooDeep at)) = IsTooDeepAt text at
IsChecked text (Err Memory) = ⊥

-- ## The text of one type, as a variant has it

-- The text of a type that passes P begins so.
abbrev pub BeginsOne : (WireType → Type 0) → List ℕ → Type 0
BeginsOne P front = (t : WireType) × (rest : List ℕ) × P t × (type_text t ≡ front ++ rest)

-- Up to this place the text goes on as that of one type does, and here it doesn't: it ends too
-- soon; or no type, however deep, has a text that goes on with this byte, as where a second type
-- begins.
abbrev pub IsNoTypeAt : List ℕ → ℕ → Type 0
IsNoTypeAt text at = BeginsOne IsValidType (take at text)
    × (((at ≡ length text) × ((t : WireType) → IsValidType t → text ≡ type_text t → ⊥))
    ⊎ ((at < length text) × (BeginsOne IsComplete (take (at + 1) text) → ⊥)))

-- Up to this place the text goes on as that of one type does, and with this byte only as those of
-- types that nest too deep.
abbrev pub IsTypeTooDeepAt : List ℕ → ℕ → Type 0
IsTypeTooDeepAt text at = (at < length text) × BeginsOne IsValidType (take at text)
    × BeginsOne IsComplete (take (at + 1) text) × (BeginsOne IsValidType (take (at + 1) text) → ⊥)

-- what the reader of one type answers
abbrev pub IsSingleReading : List ℕ → Result WireType SignatureError → Type 0
IsSingleReading text (Ok t) = IsValidType t × (text ≡ type_text t)
IsSingleReading text (Err (BadSignature at)) = IsNoTypeAt text at
IsSingleReading text (Err (TooDeep at)) = IsTypeTooDeepAt text at
IsSingleReading text (Err Memory) = Unit {0}

-- It answers this type, unless memory ran out.
abbrev pub IsSingleReadAs : WireType → Result WireType SignatureError → Type 0
IsSingleReadAs t (Ok u) = u ≡ t
IsSingleReadAs t (Err Memory) = Unit {0}
IsSingleReadAs t (Err e) = ⊥
