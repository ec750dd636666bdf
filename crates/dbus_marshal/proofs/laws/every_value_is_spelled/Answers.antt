use Rattle.dbus_marshal.proofs.EveryValueIsSpelled.{every_spelled}
use Rattle.dbus_marshal.proofs.laws.every_value_is_spelled.Goals as goal

pub returns : goal.returns
returns c e at v h small = every_spelled e at v h small
