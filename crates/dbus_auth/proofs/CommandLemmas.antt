-- Which lines are `BEGIN`.
use Rattle.std.proofs.Common.{ℕ, List, ◌≡◌, Bool, true, false, cond, refl}
use Rattle.std.specs.Prelude.{codes}
use Rattle.std.proofs.lemmas.Slice.Eq.{bytes_eq-Decides}
use Rattle.dbus_auth.specs.declared.command.Command.TheVariants.{AuthExternalWithIdentity, AuthExternal, AuthOther, CancelOrError, NegotiateUnixFd, Begin, Data, Unknown}
use Rattle.dbus_auth.specs.Command.{command_of}

-- the sixth test alone leads to `Begin`
sixth : (a b c d e f g : Bool)
    → cond a AuthExternalWithIdentity (cond b AuthExternal (cond c AuthOther (cond d CancelOrError (cond e NegotiateUnixFd (cond f Begin (cond g Data Unknown)))))) ≡ Begin
    → f ≡ true
sixth true b c d e f g h = cc
sixth false true c d e f g h = cc
sixth false false true d e f g h = cc
sixth false false false true e f g h = cc
sixth false false false false true f g h = cc
sixth false false false false false true g h = refl
sixth false false false false false false true h = cc
sixth false false false false false false false h = cc

-- a line is the command `Begin` only where it is this text
pub begin-command_of : (line : List ℕ) → command_of line ≡ Begin → line ≡ codes "BEGIN"
unfolding command_of
begin-command_of line h = (bytes_eq-Decides line (codes "BEGIN")).0 (sixth _ _ _ _ _ _ _ h)

pub command_of-begin : (line : List ℕ) → line ≡ codes "BEGIN" → command_of line ≡ Begin
unfolding command_of
command_of-begin line h = rw h refl
