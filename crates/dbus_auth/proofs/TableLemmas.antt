-- What the table says of each answer.
use Rattle.std.proofs.Common.{ℕ, List, ◌++◌, ◌≡◌, ◌≢◌, ◌↔◌, refl}
use Rattle.std.specs.Prelude.{codes}
use Rattle.hex.specs.Hex.{encode_lower}
use Rattle.dbus_auth.specs.declared.command.Command.{Command}
use Rattle.dbus_auth.specs.declared.command.Command.TheVariants as command
use Rattle.dbus_auth.specs.declared.handshake.AuthState.{AuthState}
use Rattle.dbus_auth.specs.declared.handshake.AuthState.TheVariants.{WaitingForAuth, WaitingForData, WaitingForBegin}
use Rattle.dbus_auth.specs.declared.handshake.AuthAnswer.{AuthAnswer}
use Rattle.dbus_auth.specs.declared.handshake.AuthAnswer.TheVariants.{Begin, Early}
use Rattle.dbus_auth.specs.Command.{command_of}
use Rattle.dbus_auth.specs.Handshake.{table, EndsLine}
use Rattle.dbus_auth.proofs.CommandLemmas.{begin-command_of, command_of-begin}

-- every reply of the table ends with CR LF
EndsLine-table : (guid : List ℕ) (state : AuthState) (asked : Command) → EndsLine (table guid state asked).0
EndsLine-table guid WaitingForAuth command.AuthExternalWithIdentity = (codes "OK " ++ encode_lower guid, refl)
EndsLine-table guid WaitingForAuth command.AuthExternal = (codes "DATA", refl)
EndsLine-table guid WaitingForAuth command.AuthOther = (codes "REJECTED EXTERNAL", refl)
EndsLine-table guid WaitingForAuth command.CancelOrError = (codes "REJECTED EXTERNAL", refl)
EndsLine-table guid WaitingForAuth command.Begin = tt
EndsLine-table guid WaitingForAuth _ = (codes "ERROR", refl)
EndsLine-table guid WaitingForData command.CancelOrError = (codes "REJECTED EXTERNAL", refl)
EndsLine-table guid WaitingForData command.Begin = tt
EndsLine-table guid WaitingForData command.Data = (codes "OK " ++ encode_lower guid, refl)
EndsLine-table guid WaitingForData _ = (codes "ERROR", refl)
EndsLine-table guid WaitingForBegin command.CancelOrError = (codes "REJECTED EXTERNAL", refl)
EndsLine-table guid WaitingForBegin command.Begin = tt
EndsLine-table guid WaitingForBegin _ = (codes "ERROR", refl)

-- messages follow only behind `BEGIN` after OK
begin-table : (guid : List ℕ) (state : AuthState) (asked : Command) → (table guid state asked).0 ≡ Begin
    → (asked ≡ command.Begin) × (state ≡ WaitingForBegin)
begin-table guid WaitingForBegin command.Begin h = (refl, refl)
begin-table guid WaitingForBegin _ h = absurd cc
begin-table guid WaitingForAuth command.Begin h = absurd cc
begin-table guid WaitingForAuth _ h = absurd cc
begin-table guid WaitingForData command.Begin h = absurd cc
begin-table guid WaitingForData _ h = absurd cc

-- `BEGIN` before OK is early, and nothing else
early-table : (guid : List ℕ) (state : AuthState) (asked : Command) → (table guid state asked).0 ≡ Early
    → (asked ≡ command.Begin) × (state ≢ WaitingForBegin)
early-table guid WaitingForAuth command.Begin h = (refl, λ e. cc)
early-table guid WaitingForAuth _ h = absurd cc
early-table guid WaitingForData command.Begin h = (refl, λ e. cc)
early-table guid WaitingForData _ h = absurd cc
early-table guid WaitingForBegin command.Begin h = absurd cc
early-table guid WaitingForBegin _ h = absurd cc

-- what `BEGIN` is answered
begin_before_ok : (guid : List ℕ) (state : AuthState) → state ≢ WaitingForBegin → (table guid state command.Begin).0 ≡ Early
begin_before_ok guid WaitingForAuth h = refl
begin_before_ok guid WaitingForData h = refl
begin_before_ok guid WaitingForBegin h = absurd (h refl)

-- the same of a cell that is the table's at what a line asks
pub ends_line : (guid line : List ℕ) (state : AuthState) {asked : Command} {cell : AuthAnswer × AuthState}
    → asked ≡ command_of line → cell ≡ table guid state asked → EndsLine cell.0
ends_line guid line state {asked = asked} read h = rw h (EndsLine-table guid state asked)

pub begins : (guid line : List ℕ) (state : AuthState) {asked : Command} {cell : AuthAnswer × AuthState}
    → asked ≡ command_of line → cell ≡ table guid state asked
    → (cell.0 ≡ Begin) ↔ ((line ≡ codes "BEGIN") × (state ≡ WaitingForBegin))
begins guid line state read h = rw (h, read) (
  λ e. let both = begin-table guid state (command_of line) e in (begin-command_of line both.0, both.1),
  λ e. rw (command_of-begin line e.0, e.1) refl,
)

pub comes_early : (guid line : List ℕ) (state : AuthState) {asked : Command} {cell : AuthAnswer × AuthState}
    → asked ≡ command_of line → cell ≡ table guid state asked
    → (cell.0 ≡ Early) ↔ ((line ≡ codes "BEGIN") × (state ≢ WaitingForBegin))
comes_early guid line state read h = rw (h, read) (
  λ e. let both = early-table guid state (command_of line) e in (begin-command_of line both.0, both.1),
  λ e. rw (command_of-begin line e.0) (begin_before_ok guid state e.1),
)
