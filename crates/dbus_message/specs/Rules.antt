-- The rules of a message, and the first that bytes break: D-Bus Specification, "Message Format".
use Rattle.std.specs.Prelude.{◌≡◌, ◌≢◌, ◌⊎◌, ℕ, ◌≤◌, ◌==◌, List, length, slice_index, IsTrue}
use Rattle.std.specs.List.{list_all}
use Rattle.dbus_types.specs.declared.types.Value.{Value}
use Rattle.dbus_message.specs.Header.{endian_of, kind_of, version_of, serial_of, stated_len, padding_bytes, body_bytes}
use Rattle.dbus_message.specs.Fields.{AreFieldsOf, signature_code, are_good, has_needed, text_of}
use Rattle.dbus_message.specs.Content.{IsSpelled, IsExplained}

-- what holds of the message's fields, where it has some
abbrev pub OfFields : List ℕ → (List Value → Type 0) → Type 0
OfFields bytes Holds = (fields : List Value) → AreFieldsOf bytes fields → Holds fields

-- 1: byte 0 is `l` or `B`
abbrev pub HasEndian : List ℕ → Type 0
HasEndian bytes = (slice_index bytes 0 ≡ 108) ⊎ (slice_index bytes 0 ≡ 66)

-- 2: the type isn't 0
abbrev pub HasKind : List ℕ → Type 0
HasKind bytes = kind_of bytes ≢ 0

-- 3: the version is 1
abbrev pub HasVersion : List ℕ → Type 0
HasVersion bytes = version_of bytes ≡ 1

-- 4: the serial isn't 0
abbrev pub HasSerial : List ℕ → Type 0
HasSerial bytes = serial_of bytes ≢ 0

-- 5: the whole length is at most 16 MiB
abbrev pub IsShort : List ℕ → Type 0
IsShort bytes = stated_len bytes ≤ 16_777_216

-- 6: from byte 12 on stands an `a(yv)`
abbrev pub HasFields : List ℕ → Type 0
HasFields bytes = (fields : List Value) × AreFieldsOf bytes fields

-- 7: the fields keep the table, and no known one stands twice
abbrev pub HasGoodFields : List ℕ → Type 0
HasGoodFields bytes = OfFields bytes (λ fields. IsTrue (are_good fields))

-- 8: no needed field is missing
abbrev pub HasNeededFields : List ℕ → Type 0
HasNeededFields bytes = OfFields bytes (λ fields. IsTrue (has_needed (kind_of bytes) fields))

-- 9: the padding before the body is zero
abbrev pub HasZeroPadding : List ℕ → Type 0
HasZeroPadding bytes = IsTrue (list_all (λ b. b == 0) (padding_bytes bytes))

-- 10: the body spells values of the signature's types, and no byte is left
abbrev pub HasSpelledBody : List ℕ → Type 0
HasSpelledBody bytes = OfFields bytes (λ fields.
    IsSpelled (endian_of bytes) (text_of signature_code fields) (body_bytes bytes))

-- 11: a body that isn't empty has a signature
abbrev pub HasExplainedBody : List ℕ → Type 0
HasExplainedBody bytes = OfFields bytes (λ fields.
    IsExplained (text_of signature_code fields) (body_bytes bytes))

-- Either the rule with this number doesn't hold, and is the first, or it holds and a later one is.
abbrev pub Checked : Type 0 → ℕ → ℕ → Type 0 → Type 0
Checked Rule number first Later = ((first ≡ number) × (Rule → ⊥)) ⊎ (Rule × Later)

-- The first rule that doesn't hold has this number.
abbrev pub IsFirstBroken : List ℕ → ℕ → Type 0
IsFirstBroken bytes first =
    Checked (HasEndian bytes) 1 first (
    Checked (HasKind bytes) 2 first (
    Checked (HasVersion bytes) 3 first (
    Checked (HasSerial bytes) 4 first (
    Checked (IsShort bytes) 5 first (
    Checked (HasFields bytes) 6 first (
    Checked (HasGoodFields bytes) 7 first (
    Checked (HasNeededFields bytes) 8 first (
    Checked (HasZeroPadding bytes) 9 first (
    Checked (HasSpelledBody bytes) 10 first (
    Checked (HasExplainedBody bytes) 11 first ⊥))))))))))

-- the rules that are looked at as soon as 16 bytes are there
abbrev pub KeepsHeader : List ℕ → Type 0
KeepsHeader bytes = HasEndian bytes × HasKind bytes × HasVersion bytes × HasSerial bytes
    × IsShort bytes

-- the bytes of a message, as far as its header tells: no more and no fewer than it states
abbrev pub IsWhole : List ℕ → Type 0
IsWhole bytes = (16 ≤ length bytes) × KeepsHeader bytes × (length bytes ≡ stated_len bytes)
