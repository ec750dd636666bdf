use Rattle.dbus_dispatch.proofs.Writable.{can_be_answered}
use Rattle.dbus_dispatch.proofs.laws.answers_can_be_written.Goals as goal

pub returns : goal.returns
returns c settings message path fits = can_be_answered settings message path fits
