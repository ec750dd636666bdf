use Rattle.portal_model.specs.declared.request.Request.{Request}
use Rattle.session.proofs.ServeCall.{reply_sound}
use Rattle.session.proofs.ServeItem.{collected_err, collected_ok}
use Rattle.session.proofs.serve.ask_untold.Goals as goal

pub returns-in-Ok-clause-asked : goal.returns-in-Ok-clause-asked
returns-in-Ok-clause-asked g c =
    collected_ok (g.D.Desk.seated c.args.desk.now) (g.D.Desk.seated c.ask.new.self) Request.Collect c.in-Ok.reply c.in-Ok.ensures.asks

pub returns-in-Ok-clause-sound : goal.returns-in-Ok-clause-sound
returns-in-Ok-clause-sound g c =
    reply_sound (g.D.Desk.seated c.args.desk.now) (g.D.Desk.seated c.ask.new.self) Request.Collect c.in-Ok.reply c.in-Ok.ensures.asks c.known.ensures

pub returns-in-Err-clause-asked : goal.returns-in-Err-clause-asked
returns-in-Err-clause-asked g c =
    collected_err (g.D.Desk.seated c.args.desk.now) (g.D.Desk.seated c.ask.new.self) Request.Collect c.in-Err.field-0 c.new.result c.in-Err.ensures.asks c.new.ensures
