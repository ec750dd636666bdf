-- The temporaries of all connections, and the generations that were taken for them.
use Rattle.std.specs.Prelude.{ℕ, ◌≤◌, List, IfSome, length}
use Rattle.portal_model.specs.declared.opening.TakenGeneration.{TakenGeneration}
use Rattle.save_files.specs.Own.{Own, most_temps, own_on}

-- what each connection has, by its seat; the last generations taken, and for how many more paths
-- there is room
pub record TempTable : Type 0 where
  pub seats : List (ℕ × Own)
  pub taken : List TakenGeneration
  pub room : ℕ

abbrev pub AreWithin : List (ℕ × Own) → Type 0
AreWithin seats = (s : ℕ) → IfSome (own_on seats s) (λ o. length o.temps ≤ most_temps)
