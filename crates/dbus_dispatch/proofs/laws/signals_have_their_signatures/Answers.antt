use Rattle.dbus_dispatch.proofs.Signals.{carries_its_signature}
use Rattle.dbus_dispatch.proofs.laws.signals_have_their_signatures.Goals as goal

pub returns : goal.returns
returns c change = carries_its_signature change
