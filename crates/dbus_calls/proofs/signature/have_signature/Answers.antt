use Rattle.dbus_types.specs.Types.{types_text}
use Rattle.dbus_calls.proofs.Behind.{not_equal}
use Rattle.dbus_calls.proofs.signature.have_signature.Goals as goal

pub returns-in-None : goal.returns-in-None
returns-in-None c = not_equal (types_text c.args.kinds.now) c.args.signature.now c.in-None.ensures
