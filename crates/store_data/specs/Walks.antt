-- Walks over the spelling of values: D-Bus Specification, "Marshaling (Wire Format)".
use Rattle.std.specs.Prelude.{◌≡◌, ℕ, ◌+◌, ◌-◌, ◌%◌, ◌^◌, min, Bool, true, false, Option, Some, None}
use Rattle.dbus_types.specs.declared.types.Value.{Value}
use Rattle.dbus_types.specs.declared.types.WireType.{WireType}
use Rattle.dbus_values.specs.Spells.{gap}
use Rattle.dbus_types.specs.Types.{alignment}
use Rattle.dbus_values.specs.Values.{KeepsWithin}
use Rattle.store_data.specs.declared.walk.Walk.{Walk}

-- the walk has passed so many bytes, of which it counts at most the greatest number, and the next
-- one stands at this offset
pub record Stands (passed at : ℕ) (w : Walk) : Type 0 where
  pub counted : w.bytes ≡ min passed (2 ^ 64 - 1)
  pub phase : w.phase ≡ at % 8

-- where a rule is kept, the walk goes on to this place; where it is broken, it ends
abbrev pub Passes : Bool → ℕ → ℕ → Option Walk → Type 0
Passes keeps passed at None = keeps ≡ false
Passes keeps passed at (Some w) = (keeps ≡ true) × Stands passed at w

-- the value and those inside it keep the rules of values, however deep it goes
abbrev pub Keeps : Value → Type 0
Keeps v = (depth : ℕ) × KeepsWithin depth v

-- what stands between an array's offset and its first element: padding, the number of the elements'
-- bytes, and padding
abbrev pub ahead_of_elements : WireType → ℕ → ℕ
ahead_of_elements t at = let number = gap 4 at + 4 in number + gap (alignment t) (at + number)
