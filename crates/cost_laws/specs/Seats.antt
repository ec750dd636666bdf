-- What the entries of a history cost, seat by seat.
use Rattle.std.specs.Prelude.{◌≡◌, ◌⊎◌, ℕ, zero, suc, ◌+◌, ◌<◌, List, []}
use Rattle.portal_model.specs.declared.entry.Entry.{Entry}
use Rattle.portal_model.specs.History.{cost, of_seat}

-- what the entries of so many seats cost together, of which the first has the number behind this
abbrev pub seats_cost : ℕ → ℕ → List Entry → ℕ
seats_cost before zero h = 0
seats_cost before (suc more) h = cost (of_seat (suc before) h) + seats_cost (suc before) more h

-- no entry is of a seat but of those from 1 to this
abbrev pub AreOfSeats : ℕ → List Entry → Type 0
AreOfSeats count h = (n : ℕ) → (n ≡ 0) ⊎ (count < n) → of_seat n h ≡ []

-- Entries cost what those of each seat cost together.
abbrev pub SeatsCostAll : Type 0
SeatsCostAll = (count : ℕ) (h : List Entry) → AreOfSeats count h → cost h ≡ seats_cost 0 count h
