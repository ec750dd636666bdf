use Rattle.std.proofs.Common.{sym}
use Rattle.dbus_message.proofs.Parts.{after_none, after_some}
use Rattle.dbus_message.proofs.write.last_part.Goals as goal

pub returns-in-Some : goal.returns-in-Some
returns-in-Some c = after_some c.args.name.now (c.in-Some.field-0-0, c.in-Some.last) c.in-Some.ensures.cases

pub returns-in-None : goal.returns-in-None
returns-in-None c = sym (after_none c.args.name.now c.in-None.ensures.cases)
