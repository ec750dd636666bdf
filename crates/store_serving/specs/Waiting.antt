-- What the connections of a state wait for, held apart from them: each open connection of the host
-- to the bus has a box of changes that it was not told yet.
use Rattle.std.specs.Prelude.{◌≡◌, ℕ, List, [], Option, Some, None, cond}
use Rattle.change_signals.specs.Unsent.{Boxes, unsent_on}
use Rattle.portal_model.specs.declared.reply.Change.{Change}
use Rattle.portal_model.specs.declared.state.Connection.{Connection}
use Rattle.portal_model.specs.State.{connection_of}
use Rattle.portal_model.specs.Valid.{is_host_bus}

-- the box of a connection: only the host's to the bus hear of changes
abbrev pub box_of : Connection → Option (List Change)
box_of c = cond (is_host_bus c.who c.kind) (Some c.unsent) None

abbrev pub box_on : Option Connection → Option (List Change)
box_on None = None
box_on (Some c) = box_of c

-- the boxes hold what these connections wait for, and there is no other box
abbrev pub AreWaiting : List Connection → Boxes → Type 0
AreWaiting connections boxes = (seat : ℕ) →
    unsent_on boxes seat ≡ box_on (connection_of connections seat)

-- a connection but for what it waits for, what it has named and its temporaries
abbrev pub silent : Connection → Connection
silent c = record c { unsent = []; namings = []; temps = []; added = 0 }
