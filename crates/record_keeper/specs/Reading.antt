-- What bytes are read as.
use Rattle.std.specs.Prelude.{ℕ, List, Option, MatchOption}
use Rattle.dbus_types.specs.declared.types.Value.{Value}
use Rattle.portal_model.specs.Changed.{IsDatum}

-- the data that bytes are, or none where they are none
abbrev pub ReadsDatum : List ℕ → Option Value → Type 0
ReadsDatum bytes read = MatchOption read ((datum : Value) → IsDatum datum bytes
    → ⊥) (λ datum. IsDatum datum bytes)
