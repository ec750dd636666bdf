-- What is read of a source.
use Rattle.std.specs.Prelude.{◌≡◌, ℕ, ◌<◌, ◌≤◌, List, [], length, Option, IfSome}
use Rattle.portal_base.specs.Outside.{behind, HasRisen}
use Rattle.script_command.specs.declared.input.InputError.{InputError}
use Rattle.script_command.specs.declared.input.InputError.TheVariants.{Failed, TooLong, Memory}

-- the most bytes that a script may have
abbrev pub script_limit : ℕ
script_limit = 67108864

-- nothing is left of a source that tells
abbrev pub AtEnd : Option (List ℕ) → Type 0
AtEnd left = IfSome left (λ bytes. bytes ≡ [])

-- the text is all that was left, and is no longer than a script may be
pub record IsWhole (old : Option (List ℕ)) (text : List ℕ) (new : Option (List ℕ)) : Type 0 where
  pub read : old ≡ behind text new
  pub ended : AtEnd new
  pub within : length text ≤ script_limit

-- why no whole text was read, of a source with these bytes left and this count of faults before
-- and after: a read failed behind bytes that a script may have, more bytes came than that, or there
-- was no memory. Only a fault is counted
abbrev pub Stops : Option (List ℕ) → ℕ → Option (List ℕ) → ℕ → InputError → Type 0
Stops old faults new faults' Failed = HasRisen faults faults'
    × ((text : List ℕ) × (old ≡ behind text new) × (length text ≤ script_limit))
Stops old faults new faults' TooLong = (faults' ≡ faults)
    × ((text : List ℕ) × (old ≡ behind text new) × (script_limit < length text))
Stops old faults new faults' Memory = (faults' ≡ faults)
    × ((text : List ℕ) × (old ≡ behind text new))
