-- What connections have open, as a table has it, and how a request changes that.
use Rattle.std.specs.Prelude.{◌≡◌, ℕ, List, map, Option, Some, None}
use Rattle.portal_model.specs.declared.handle.Handle.{Handle}
use Rattle.portal_model.specs.declared.handle.OpenHandle.{OpenHandle}
use Rattle.portal_model.specs.declared.state.Connection.{Connection}
use Rattle.portal_model.specs.NodeVerdict.{HandleChange, HandlesStay, Opens, Closes}
use Rattle.portal_model.specs.State.{State, connection_of, handles_of}
use Rattle.open_handles.specs.Opened.{Adds, AtSeat, Both, HandleTable, Keeps, Opened, Releases, opened_on}

-- ---- the open handles of a state

-- an open handle by its number
abbrev pub numbered : OpenHandle → ℕ × Handle
numbered h = (h.fh, h.handle)

-- what a seat has open, in order of opening
abbrev pub open_on : List OpenHandle → ℕ → List (ℕ × Handle)
open_on handles seat = map numbered (handles_of handles seat)

-- the last number that the connection was given, and what it has open
pub record IsOpened (open_there : List (ℕ × Handle)) (c : Connection) (o : Opened) : Type 0 where
  pub last : o.last ≡ c.opens
  pub handles : o.handles ≡ open_there

-- a seat stands in the table exactly where it has a connection
abbrev pub AreOpened : List (ℕ × Handle) → Option Connection → Option Opened → Type 0
AreOpened open_there None None = Unit {0}
AreOpened open_there None (Some o) = ⊥
AreOpened open_there (Some c) None = ⊥
AreOpened open_there (Some c) (Some o) = IsOpened open_there c o

-- The table has the open handles of each connection of the state, and no others, under the
-- state's limit.
pub record AreOpen (s : State) (table : HandleTable) : Type 0 where
  pub limit : table.most ≡ s.limits.handles
  pub each : (seat : ℕ) → AreOpened (open_on s.handles seat)
      (connection_of s.connections seat) (opened_on table.seats seat)

-- ---- how a request changes the table

-- by whether one more is opened, under the next number, or one is closed
abbrev pub SeatHandled : ℕ → HandleChange → Opened → Opened → Type 0
SeatHandled most HandlesStay old new = Keeps old new
SeatHandled most (Opens handle) old new = (fh : ℕ) × Adds most fh handle old new
SeatHandled most (Closes fh) old new = Releases fh old new

-- the open handles of a seat change so, and those of each other stay
pub record Handled (seat : ℕ) (change : HandleChange) (old new : HandleTable) : Type 0 where
  pub limit : new.most ≡ old.most
  pub seats : AtSeat (Both (SeatHandled old.most change)) old.seats new.seats seat
