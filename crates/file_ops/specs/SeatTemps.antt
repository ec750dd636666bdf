-- The temporaries of connections, as their table has them, and how a request changes that.
use Rattle.std.specs.Prelude.{◌≡◌, ℕ, ◌==◌, List, false, Option, Some, option_map}
use Rattle.portal_model.specs.declared.state.Connection.{Connection}
use Rattle.portal_model.specs.declared.temporary.OwnTemp.{OwnTemp}
use Rattle.portal_model.specs.declared.temporary.Temp.{Temp}
use Rattle.portal_model.specs.Node.{taken_after}
use Rattle.portal_model.specs.NodeVerdict.{FileChange, NameChange, Names, NamesStay, NodeVerdict, Temps}
use Rattle.portal_model.specs.Place.{id_of_node}
use Rattle.portal_model.specs.SeatNames.{SeatTemps, added_after, next_generation, temp_of, temps_after}
use Rattle.portal_model.specs.State.{State, connection_of}
use Rattle.save_files.specs.Own.{Own, own_on, owned}
use Rattle.save_files.specs.Tables.{TempTable}
use Rattle.node_looks.specs.Done.{file_change, name_change}
use Rattle.node_looks.specs.declared.served.NodeCall.{NodeCall}

-- ---- the temporaries of a state

-- those of a connection, and how many were made on it
pub record HeldTemps : Type 0 where
  pub temps : List OwnTemp
  pub added : ℕ

abbrev pub held_by : Own → HeldTemps
held_by o = record { temps = owned o.temps; added = o.added }

-- what the table has of a seat
abbrev pub temps_on : List (ℕ × Own) → ℕ → Option HeldTemps
temps_on seats seat = option_map held_by (own_on seats seat)

abbrev pub held_of : Connection → HeldTemps
held_of c = record { temps = c.temps; added = c.added }

-- what a state has of it
abbrev pub temps_in : State → ℕ → Option HeldTemps
temps_in s seat = option_map held_of (connection_of s.connections seat)

-- A seat stands in the table exactly where it has a connection, with the temporaries of that; and
-- the table has the generations that were taken.
pub record AreTemps (s : State) (table : TempTable) : Type 0 where
  pub each : (seat : ℕ) → temps_on table.seats seat ≡ temps_in s seat
  pub taken : table.taken ≡ s.taken

-- the temporary of the seat of a request by the number in its node
abbrev pub IsTempOn : TempTable → NodeCall → Option Temp → Type 0
IsTempOn table call temp = (has : HeldTemps) → temps_on table.seats call.seat ≡ Some has →
    temp ≡ temp_of has.temps (id_of_node call.request.now.node)

-- what a request sees of them
abbrev pub seat_temps : TempTable → HeldTemps → SeatTemps
seat_temps table has = record {
  temps = has.temps;
  added = has.added;
  next = next_generation table.taken;
}

-- ---- how a request changes the table

abbrev pub held_after : NameChange → HeldTemps → HeldTemps
held_after NamesStay has = has
held_after (Names naming) has = has
held_after (Temps change) has = record {
  temps = temps_after change has.added has.temps;
  added = added_after change has.added;
}

-- the temporaries of one seat change so, and those of each other stay
pub record SeatTemped (seat : ℕ) (names : NameChange) (old new : TempTable) : Type 0 where
  pub there : temps_on new.seats seat ≡ option_map (held_after names) (temps_on old.seats seat)
  pub elsewhere : (other : ℕ) → (seat == other) ≡ false →
      temps_on new.seats other ≡ temps_on old.seats other

-- and the generations stay, but for one that is taken
pub record SeatSaved (seat : ℕ) (names : NameChange) (file : FileChange) (old new : TempTable)
    : Type 0 where
  pub temps : SeatTemped seat names old new
  pub taken : new.taken ≡ taken_after file old.taken

-- by what a request comes to
abbrev pub SeatSavedBy : ℕ → Option NodeVerdict → TempTable → TempTable → Type 0
SeatSavedBy seat verdict old new =
    SeatSaved seat (name_change verdict) (file_change verdict) old new

-- no connection has another temporary
abbrev pub SeatsKept : List (ℕ × Own) → List (ℕ × Own) → Type 0
SeatsKept old new = (seat : ℕ) → temps_on new seat ≡ temps_on old seat

-- and no generation was taken
abbrev pub TempsKept : TempTable → TempTable → Type 0
TempsKept old new = SeatsKept old.seats new.seats × (new.taken ≡ old.taken)
