use Rattle.dbus_message.proofs.Fronts.{one_front, some_front}
use Rattle.dbus_message.proofs.laws.fronts_are_one.Goals as goal

pub returns : goal.returns
returns c = record { some = some_front; one = one_front }
