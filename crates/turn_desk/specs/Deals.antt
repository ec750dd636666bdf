-- The passes of a turn, and what stands of their seats in the last history.
use Rattle.std.specs.Prelude.{◌≡◌, ℕ, ◌≤◌, List, length, slice_get, Some}
use Rattle.atomic_table.specs.Seated.{TableId}
use Rattle.portal_model.specs.declared.entry.Entry.{Entry}
use Rattle.portal_model.specs.Seated.{BeginsWith, exchanges}
use Rattle.portal_model.specs.State.{State}
use Rattle.turn_desk.specs.Knowing.{View}
use Rattle.turn_desk.specs.Sights.{Sight}
use Rattle.turn_desk.specs.Knowing.{fresh}

-- the pass of this number, as it was given
pub record IsDealt (z : TableId) (o : State) (base : List Entry) (made number : ℕ) (p : Sight)
    : Type 0 where
  pub table_is : p.table ≡ z
  pub view_is : p.knows ≡ fresh number o base made

-- a pass of this turn: the first seat's knows how many numbers were given
pub record IsPassOf (z : TableId) (seats : ℕ) (p : Sight) : Type 0 where
  pub table_is : p.table ≡ z
  pub all_given : p.knows.number ≡ 1 → p.knows.made ≡ seats

-- these are all passes of this turn: each is one, and each number has one
pub record AreAll (z : TableId) (seats : ℕ) (passes : List Sight) : Type 0 where
  pub each : (k : ℕ) (p : Sight) → slice_get passes k ≡ Some p → IsPassOf z seats p
  pub all : (n : ℕ) → 1 ≤ n → n ≤ seats
      → (k : ℕ) × (p : Sight) × (slice_get passes k ≡ Some p) × (p.knows.number ≡ n)

-- what stands of a seat in a history: it begins with what the seat has seen, all its entries of the
-- seat are those that the seat knows, and it is no shorter than the seat once read
pub record Stands (o : State) (log : List Entry) (v : View) : Type 0 where
  pub seen : BeginsWith log v.seen
  pub mine : exchanges v.number o log ≡ v.mine
  pub known : v.known ≤ length log
