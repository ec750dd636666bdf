-- The handshake as a table (D-Bus Specification, "Authentication state diagrams", "Server states").
use Rattle.std.specs.Prelude.{ℕ, List, ◌++◌, ◌≡◌}
use Rattle.dbus_auth.specs.declared.command.Command.{Command}
use Rattle.dbus_auth.specs.declared.command.Command.TheVariants as command
use Rattle.dbus_auth.specs.declared.handshake.AuthState.{AuthState}
use Rattle.dbus_auth.specs.declared.handshake.AuthState.TheVariants.{WaitingForAuth, WaitingForData, WaitingForBegin}
use Rattle.dbus_auth.specs.declared.handshake.AuthAnswer.{AuthAnswer}
use Rattle.dbus_auth.specs.declared.handshake.AuthAnswer.TheVariants.{Say, Begin, Early}
use Rattle.dbus_auth.specs.Command.{command_of}
use Rattle.dbus_auth.specs.Reply.{ok_line, data_line, rejected_line, error_line, cr_lf}

-- the server's GUID, and how far the handshake has come
pub record Handshake : Type 0 where
  pub guid : List ℕ
  pub state : AuthState

-- the start of a connection
abbrev pub begun : List ℕ → Handshake
begun guid = record { guid = guid; state = WaitingForAuth }

-- a cell of the table: what a line is answered, and the next state
abbrev pub Cell : Type 0
Cell = AuthAnswer × AuthState

-- OK is said
abbrev pub ok : List ℕ → Cell
ok guid = (Say (ok_line guid), WaitingForBegin)

-- the wait for `DATA` begins
abbrev pub asks_data : Cell
asks_data = (Say data_line, WaitingForData)

-- OK is not said, or no longer
abbrev pub rejected : Cell
rejected = (Say rejected_line, WaitingForAuth)

-- the line changes nothing
abbrev pub error : AuthState → Cell
error state = (Say error_line, state)

-- messages follow
abbrev pub messages : Cell
messages = (Begin, WaitingForBegin)

-- `BEGIN` comes before OK was said
abbrev pub early : AuthState → Cell
early state = (Early, state)

-- a row of the table: the cells before OK, during the wait for `DATA`, and after OK
abbrev pub row : List ℕ → Command → Cell × Cell × Cell
row guid command.AuthExternalWithIdentity = (ok guid, error WaitingForData, error WaitingForBegin)
row guid command.AuthExternal = (asks_data, error WaitingForData, error WaitingForBegin)
row guid command.AuthOther = (rejected, error WaitingForData, error WaitingForBegin)
row guid command.CancelOrError = (rejected, rejected, rejected)
row guid command.NegotiateUnixFd =
    (error WaitingForAuth, error WaitingForData, error WaitingForBegin)
row guid command.Begin = (early WaitingForAuth, early WaitingForData, messages)
row guid command.Data = (error WaitingForAuth, ok guid, error WaitingForBegin)
row guid command.Unknown = (error WaitingForAuth, error WaitingForData, error WaitingForBegin)

-- the cell of a row in the column of a state
abbrev pub table : List ℕ → AuthState → Command → Cell
table guid WaitingForAuth asked = (row guid asked).0
table guid WaitingForData asked = (row guid asked).1
table guid WaitingForBegin asked = (row guid asked).2

-- one line of the client: the answer, and the handshake behind it
abbrev pub step : Handshake → List ℕ → AuthAnswer × Handshake
step handshake line =
    let cell = table handshake.guid handshake.state (command_of line) in
    (cell.0, record handshake { state = cell.1 })

-- what is said is a text and CR LF
abbrev pub EndsLine : AuthAnswer → Type 0
EndsLine (Say reply) = (text : List ℕ) × (reply ≡ text ++ cr_lf)
EndsLine Begin = Unit {0}
EndsLine Early = Unit {0}
