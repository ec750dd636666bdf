use Rattle.std.proofs.Common.{refl}
use Rattle.session.proofs.Dues.{became_err, became_none, became_ok, can_tell_none, can_tell_refused, can_tell_reply}
use Rattle.session.proofs.FrameRoom.{fits_none, fits_refused, fits_reply}
use Rattle.poll_steps.proofs.Acting.{away}
use Rattle.poll_steps.proofs.ask.try_ask.Goals as goal

pub returns-in_default-clause-became : goal.returns-in_default-clause-became
returns-in_default-clause-became g c = rw c.in_default.is (became_none (g.D.TryDesk.seated c.args.desk.now), refl)

pub returns-in_default-clause-fits : goal.returns-in_default-clause-fits
returns-in_default-clause-fits g c client act may asked = can_tell_none client act may

pub returns-in-Answered-clause-became : goal.returns-in-Answered-clause-became
returns-in-Answered-clause-became g c =
    rw c.in-Some.is (became_ok (g.D.TryDesk.seated c.args.desk.now) (g.D.TryDesk.seated c.try_ask.new.self) c.in-Some.request c.in-Answered.reply c.in-Answered.ensures.attempts, c.in-Answered.ensures.counts)

pub returns-in-Answered-clause-fits : goal.returns-in-Answered-clause-fits
returns-in-Answered-clause-fits g c client act may asked =
    can_tell_reply client act c.in-Some.request (g.D.TryDesk.seated c.args.desk.now) (g.D.TryDesk.seated c.try_ask.new.self) c.in-Answered.reply may (rw c.in-Some.is at asked) c.in-Answered.ensures.attempts c.known.ensures

pub returns-in-Refused-clause-became : goal.returns-in-Refused-clause-became
returns-in-Refused-clause-became g c =
    rw c.in-Some.is (became_err (g.D.TryDesk.seated c.args.desk.now) (g.D.TryDesk.seated c.try_ask.new.self) c.in-Some.request c.in-Refused.refused c.in-Refused.ensures.attempts, c.in-Refused.ensures.counts)

pub returns-in-Refused-clause-fits : goal.returns-in-Refused-clause-fits
returns-in-Refused-clause-fits g c client act may asked = can_tell_refused client act c.in-Refused.refused may

pub returns-clause-put_off : goal.returns-clause-put_off
returns-clause-put_off g c =
    away c.args.request c.in-Some.request _ (g.D.TryDesk.seated c.args.desk.now) (g.D.TryDesk.seated c.try_ask.new.self) (g.D.TryDesk.busy c.args.desk.now) (g.D.TryDesk.busy c.try_ask.new.self) c.in-Some.is c.in-Busy.ensures.attempts c.in-Busy.ensures.counts

-- an answer to a request on a node is no longer than the request may be answered
pub returns-in_default-clause-short : goal.returns-in_default-clause-short
returns-in_default-clause-short g c act asked = fits_none act

pub returns-in-Answered-clause-short : goal.returns-in-Answered-clause-short
returns-in-Answered-clause-short g c act asked =
    fits_reply act c.in-Some.request (g.D.TryDesk.seated c.args.desk.now) (g.D.TryDesk.seated c.try_ask.new.self) c.in-Answered.reply (rw c.in-Some.is at asked) c.in-Answered.ensures.attempts

pub returns-in-Refused-clause-short : goal.returns-in-Refused-clause-short
returns-in-Refused-clause-short g c act asked = fits_refused act c.in-Refused.refused
