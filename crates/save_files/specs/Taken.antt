-- The last generations that were taken, by path.
use Rattle.std.specs.Prelude.{ℕ, List}
pub use Rattle.portal_model.specs.SeatNames.{is_of, last_of, last_taken, taken_as, with_taken}
use Rattle.portal_model.specs.declared.opening.TakenGeneration.{TakenGeneration}

-- the last generations, and for how many more paths there is room
pub record Taken : Type 0 where
  pub taken : List TakenGeneration
  pub room : ℕ
