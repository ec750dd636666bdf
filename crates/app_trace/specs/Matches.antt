-- What is answered of two traces: that they are the same, or where they differ first.
use Rattle.std.specs.Prelude.{◌≡◌, ℕ, ◌≤◌, ◌-◌, List, take, slice_get}
use Rattle.app_world.specs.World.{Trace}
use Rattle.app_trace.specs.declared.matching.TraceMatch.{TraceMatch}
use Rattle.app_trace.specs.declared.matching.TraceMatch.TheVariants.{Same, Opening, At}

-- the first place, from 1, at which two lists don't have the same item: there the items differ, or
-- one of the lists has none
pub record DifferFirst {X : Type 0} (xs ys : List X) (place : ℕ) : Type 0 where
  pub from_one : 1 ≤ place
  pub alike : take (place - 1) xs ≡ take (place - 1) ys
  pub differ : slice_get xs (place - 1) ≡ slice_get ys (place - 1) → ⊥

abbrev pub Matches : Trace → Trace → TraceMatch → Type 0
Matches first second Same = first ≡ second
Matches first second Opening = first.opening ≡ second.opening → ⊥
Matches first second (At place) =
    (first.opening ≡ second.opening) × DifferFirst first.items second.items place
