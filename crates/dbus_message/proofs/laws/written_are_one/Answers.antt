use Rattle.dbus_message.proofs.OneMessage.{one_written}
use Rattle.dbus_message.proofs.laws.written_are_one.Goals as goal

pub returns : goal.returns
returns c = one_written
