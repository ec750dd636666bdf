-- What a table of open handles has to do with the connections of a state.
use Rattle.std.specs.Prelude.{◌≡◌, ℕ, [], map, Option, Some, None}
use Rattle.portal_model.specs.declared.handle.Handle.{Handle}
use Rattle.portal_model.specs.declared.handle.OpenHandle.{OpenHandle}
use Rattle.portal_model.specs.declared.state.Connection.{Connection}
use Rattle.portal_model.specs.State.{State, handles_of}
use Rattle.open_handles.specs.Opened.{Opened}

-- a connection but for what it waits for and what it has named
abbrev pub silent : Connection → Connection
silent c = record c { unsent = []; namings = []; temps = []; added = 0 }

abbrev pub numbered : OpenHandle → ℕ × Handle
numbered h = (h.fh, h.handle)

-- the table has what the connection of a seat has open, and the number that it was given last
abbrev pub HasOpen : State → ℕ → Connection → Option Opened → Type 0
HasOpen s seat c None = ⊥
HasOpen s seat c (Some o) =
    (o.last ≡ c.opens) × (o.handles ≡ map numbered (handles_of s.handles seat))
