-- What the parts of the reader of messages answer.
use Rattle.std.specs.Prelude.{◌≡◌, ℕ, List, Option, Result, Ok, Err}
use Rattle.dbus_types.specs.declared.types.Endian.{Endian}
use Rattle.dbus_types.specs.declared.types.WireType.{WireType}
use Rattle.dbus_types.specs.declared.types.WireType.TheVariants as W
use Rattle.dbus_types.specs.declared.types.Value.{Value}
use Rattle.dbus_types.specs.declared.types.Value.TheVariants as V
use Rattle.dbus_types.specs.Types.{IsSignature}
use Rattle.dbus_values.specs.Spells.{Spells}
use Rattle.dbus_message.specs.declared.error.MessageError.{MessageError}
use Rattle.dbus_message.specs.declared.error.MessageError.TheVariants.{Bad, Memory}
use Rattle.dbus_message.specs.declared.content.Content.{Content}
use Rattle.dbus_message.specs.Fields.{field_type, known}
use Rattle.dbus_message.specs.Content.{IsBody, IsContent, IsSpelled, IsExplained}
use Rattle.dbus_message.specs.Rules.{Checked}

-- The thing that P says is found, and there is no other; or there is none, and a rule is broken; or
-- memory ran out.
abbrev pub FindsOne : {X : Type 0} → (X → Type 0) → (ℕ → Type 0) → Result X MessageError → Type 0
FindsOne P Broken (Ok x) = P x × ((y : _) → P y → y ≡ x)
FindsOne P Broken (Err (Bad rule)) = ((y : _) → P y → ⊥) × Broken rule
FindsOne P Broken (Err Memory) = Unit {0}

-- the fields with known codes among those that the bytes from byte 12 on spell
abbrev pub IsReadFields : Endian → List ℕ → Result (List Value) MessageError → Type 0
IsReadFields e bytes = FindsOne (λ some. (fields : List Value) × (some ≡ known fields)
    × Spells e 12 (W.Array field_type) (V.Array field_type fields) bytes) (λ rule. rule ≡ 6)

-- the types of a signature
abbrev pub IsReadTypes : List ℕ → Result (List WireType) MessageError → Type 0
IsReadTypes signature = FindsOne (λ types. IsSignature types signature) (λ rule. rule ≡ 10)

-- the values of these types that the bytes spell
abbrev pub IsReadBody : Endian → List ℕ → List WireType → Result (List Value) MessageError → Type 0
IsReadBody e bytes types = FindsOne (λ values. IsBody e types values bytes) (λ rule. rule ≡ 10)

-- the types and values of a body
abbrev pub IsReadContent : Endian → Option (List ℕ) → List ℕ → Result Content MessageError → Type 0
IsReadContent e signature bytes = FindsOne (λ c. IsContent e signature c.types c.values bytes)
    (λ rule. Checked (IsSpelled e signature bytes) 10 rule
    (Checked (IsExplained signature bytes) 11 rule ⊥))
