-- What is true at a desk at each moment.
use Rattle.std.specs.Prelude.{◌≡◌}
use Rattle.portal_model.specs.History.{Legal}
use Rattle.portal_model.specs.Seated.{Seated, exchanges}
use Rattle.portal_desk.specs.Opening.{IsOpeningState}

-- a legal history is seen, that began in an opening state, and its own entries are those of the
-- seat in it
pub record Known (d : Seated) : Type 0 where
  pub started : IsOpeningState d.opening
  pub legal : Legal d.opening d.seen
  pub mine : exchanges d.seat d.opening d.seen ≡ d.mine
