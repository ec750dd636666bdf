use Rattle.dbus_message.proofs.ReadingsAreOne.{found}
use Rattle.dbus_message.proofs.OneMessage.{one_message}
use Rattle.dbus_message.proofs.ReadMessage.{one_first, refutes}
use Rattle.dbus_message.proofs.laws.readings_are_one.Goals as goal

pub returns : goal.returns
returns c = record { found = found; message = one_message; rule = one_first; apart = refutes }
