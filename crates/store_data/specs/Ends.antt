-- Where what is spelled at an offset ends, as far as a message goes: D-Bus Specification,
-- "Marshaling (Wire Format)".
use Rattle.std.specs.Prelude.{◌≡◌, ℕ, ◌+◌, ◌<◌, ◌≤◌, length, Option, Some, None}
use Rattle.dbus_types.specs.declared.types.WireType.{WireType}
use Rattle.dbus_values.specs.Spells.{gap}
use Rattle.dbus_types.specs.Types.{type_text}
use Rattle.portal_model.specs.Changed.{message_limit}

-- the place is the end; none where that is past the longest message
abbrev pub Ends : ℕ → Option ℕ → Type 0
Ends end None = message_limit < end
Ends end (Some place) = (place ≡ end) × (end ≤ message_limit)

-- where the first element of an array stands, behind the array's length and the padding
abbrev pub elements_at : ℕ → ℕ → ℕ
elements_at to at = let start = at + gap 4 at in start + 4 + gap to (start + 4)

-- where the value inside a variant begins, behind the signature of its type
abbrev pub inside_at : WireType → ℕ → ℕ
inside_at kind at = at + (1 + length (type_text kind) + 1)
