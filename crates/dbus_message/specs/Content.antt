-- The body of a message: D-Bus Specification, "Message Format", and of the field SIGNATURE "Header
-- Fields".
use Rattle.std.specs.Prelude.{◌≡◌, ℕ, List, [], Option, Some, None}
use Rattle.dbus_types.specs.declared.types.Endian.{Endian}
use Rattle.dbus_types.specs.declared.types.WireType.{WireType}
use Rattle.dbus_types.specs.declared.types.Value.{Value}
use Rattle.dbus_types.specs.Types.{IsSignature}
use Rattle.dbus_values.specs.Spells.{Spells, Members}

-- The bytes are the spellings of the values of these types, one after another. Offsets count from
-- the body's first byte, which stands at a multiple of 8.
abbrev pub IsBody : Endian → List WireType → List Value → List ℕ → Type 0
IsBody e types values bytes = Members (λ t at v text. Spells e at t v text) types values 0 bytes

-- The body has these types and values, where a signature may be there: its types, and their values;
-- without one, nothing.
abbrev pub IsContent : Endian → Option (List ℕ) → List WireType → List Value → List ℕ → Type 0
IsContent e None types values bytes = (types ≡ []) × (values ≡ []) × (bytes ≡ [])
IsContent e (Some signature) types values bytes = IsSignature types signature
    × IsBody e types values bytes

-- where there is a signature, the body is a spelling of values of its types
abbrev pub IsSpelled : Endian → Option (List ℕ) → List ℕ → Type 0
IsSpelled e None bytes = Unit {0}
IsSpelled e (Some signature) bytes = (types : List WireType) × (values : List Value)
    × IsSignature types signature × IsBody e types values bytes

-- where there is none, the body is empty
abbrev pub IsExplained : Option (List ℕ) → List ℕ → Type 0
IsExplained None bytes = bytes ≡ []
IsExplained (Some signature) bytes = Unit {0}
