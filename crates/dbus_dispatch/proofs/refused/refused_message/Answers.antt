use Rattle.dbus_dispatch.proofs.Writable.{error_can}
use Rattle.dbus_dispatch.proofs.refused.refused_message.Goals as goal

pub returns-clause-writable : goal.returns-clause-writable
returns-clause-writable c = error_can c.answer_to.result c.args.call.now c.before.match-refused.error c.fits.ensures c.answer_to.ensures
