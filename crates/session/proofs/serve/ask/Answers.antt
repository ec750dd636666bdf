use Rattle.std.proofs.Common.{◌≡◌, [], sym, ap, ◌∙◌, subst}
use Rattle.session.proofs.Dues.{became_err, became_none, became_ok, can_tell_none, can_tell_refused, can_tell_reply}
use Rattle.session.proofs.FrameRoom.{fits_none, fits_refused, fits_reply}
use Rattle.session.proofs.serve.ask.Goals as goal

pub returns-in_default-clause-became : goal.returns-in_default-clause-became
returns-in_default-clause-became g c = rw c.in_default.is (became_none (g.D.Desk.seated c.args.desk.now))

pub returns-in_default-clause-fits : goal.returns-in_default-clause-fits
returns-in_default-clause-fits g c client act may asked = can_tell_none client act may

pub returns-in-Ok-clause-became : goal.returns-in-Ok-clause-became
returns-in-Ok-clause-became g c =
    rw c.in-Some.is (became_ok (g.D.Desk.seated c.args.desk.now) (g.D.Desk.seated c.ask.new.self) c.in-Some.request c.in-Ok.reply c.in-Ok.ensures.asks)

pub returns-in-Ok-clause-fits : goal.returns-in-Ok-clause-fits
returns-in-Ok-clause-fits g c client act may asked =
    can_tell_reply client act c.in-Some.request (g.D.Desk.seated c.args.desk.now) (g.D.Desk.seated c.ask.new.self) c.in-Ok.reply may (rw c.in-Some.is at asked) c.in-Ok.ensures.asks c.known.ensures

pub returns-in-Err-clause-became : goal.returns-in-Err-clause-became
returns-in-Err-clause-became g c =
    rw c.in-Some.is (became_err (g.D.Desk.seated c.args.desk.now) (g.D.Desk.seated c.ask.new.self) c.in-Some.request c.in-Err.refused c.in-Err.ensures.asks)

pub returns-in-Err-clause-fits : goal.returns-in-Err-clause-fits
returns-in-Err-clause-fits g c client act may asked = can_tell_refused client act c.in-Err.refused may

pub returns-in_default-clause-short : goal.returns-in_default-clause-short
returns-in_default-clause-short g c act asked = fits_none act

pub returns-in-Ok-clause-short : goal.returns-in-Ok-clause-short
returns-in-Ok-clause-short g c act asked =
    fits_reply act c.in-Some.request (g.D.Desk.seated c.args.desk.now) (g.D.Desk.seated c.ask.new.self) c.in-Ok.reply (rw c.in-Some.is at asked) c.in-Ok.ensures.asks

pub returns-in-Err-clause-short : goal.returns-in-Err-clause-short
returns-in-Err-clause-short g c act asked = fits_refused act c.in-Err.refused
