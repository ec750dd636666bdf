use Rattle.dbus_dispatch.proofs.Signals.{signal_writes}
use Rattle.dbus_dispatch.proofs.signal.signal_message.Goals as goal

pub returns-clause-writable : goal.returns-clause-writable
returns-clause-writable c sound = signal_writes c.signal_of.result c.args.change.now c.signal_of.ensures.tells sound c.signal_of.ensures.utf8
