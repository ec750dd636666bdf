use Rattle.dbus_message.proofs.Fronts.{front_taken, front_whole, whole_front}
use Rattle.dbus_message.proofs.laws.fronts_are_whole.Goals as goal

pub returns : goal.returns
returns c = record { taken = front_taken; whole = front_whole; split = whole_front }
