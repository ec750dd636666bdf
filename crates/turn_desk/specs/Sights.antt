-- What contracts see of a turn, of a pass and of a seat.
use Rattle.std.specs.Prelude.{◌≡◌, ℕ, ◌≤◌}
use Rattle.atomic_table.specs.Seated.{TableId}
use Rattle.portal_model.specs.Seated.{Seated}
use Rattle.turn_desk.specs.Knowing.{View}
use Rattle.turn_desk.specs.Views.{SameSeat}

-- which turn it is, what it was started with, and for how many seats
pub record Turned (S : Type 0) : Type 0 where
  pub table : TableId
  pub start : S
  pub seats : ℕ

-- of which turn a pass or a seat is, what it knows, and how many of its requests were refused since
-- it sat down
pub record Sight : Type 0 where
  pub table : TableId
  pub knows : View
  pub refusals : ℕ

-- what a seat knows, as at any desk
abbrev pub seated_of : Sight → Seated
seated_of s = record {
  opening = s.knows.opening;
  seat = s.knows.number;
  seen = s.knows.seen;
  mine = s.knows.mine;
  refusals = s.refusals;
}

-- what holds of each call of a seat: it is the same seat, of the same turn, and never knows of a
-- shorter history than before
pub record Stays (old new : Sight) : Type 0 where
  pub table : new.table ≡ old.table
  pub seat : SameSeat old.knows new.knows
  pub read : old.knows.known ≤ new.knows.known
