use Rattle.dbus_marshal.proofs.ReadValueLaws.{spelled_or_broken, broken_once, not_both}
use Rattle.dbus_marshal.proofs.laws.bytes_are_spelled_or_break.Goals as goal

pub returns-clause-either : goal.returns-clause-either
returns-clause-either c = spelled_or_broken

pub returns-clause-once : goal.returns-clause-once
returns-clause-once c = broken_once

pub returns-clause-not_both : goal.returns-clause-not_both
returns-clause-not_both c = not_both
