-- Which text of a list names no right.
use Rattle.std.specs.Prelude.{◌≡◌, ℕ, List}
use Rattle.rights_rule.specs.declared.names.UnknownPermission.{UnknownPermission}
use Rattle.rights_rule.specs.Rights.{IsFirstUnknown, told_place}

-- the error tells the place of the first such text
abbrev pub TellsUnknown : List (List ℕ) → UnknownPermission → Type 0
TellsUnknown names error = (at : ℕ) × IsFirstUnknown names at × (error.index ≡ told_place at)
