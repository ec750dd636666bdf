use Rattle.std.proofs.Common.{inl, inr, refl, ap}
use Rattle.poll_laws.specs.Courses.{Standing, standing}
use Rattle.poll_steps.proofs.EnterLeave.{enters_busy, enters_err, enters_ok, fits_entered, fits_over, fits_refused, fits_unopened, fits_waiting, over_enters}
use Rattle.poll_steps.proofs.ask.enter.Goals as goal

pub returns-in_default-clause-enters : goal.returns-in_default-clause-enters
returns-in_default-clause-enters g c = inr (inr (inl (refl, refl, c.close.ensures)))

pub returns-in_default-clause-fits_still : goal.returns-in_default-clause-fits_still
returns-in_default-clause-fits_still g c =
    fits_unopened (standing c.args.course.now) (standing c.close.new.course) _ (g.D.TryDesk.seated c.args.desk.now) (ap (λ (z : Standing). z.turn) c.requires.fresh) c.requires.fits c.close.ensures

pub returns-in_default-clause-registered : goal.returns-in_default-clause-registered
returns-in_default-clause-registered g c = λ is. absurd (over_enters (standing c.args.course.now) (standing c.close.new.course) _ c.close.ensures is)

pub returns-in_default-clause-yields : goal.returns-in_default-clause-yields
returns-in_default-clause-yields g c = λ is. absurd (over_enters (standing c.args.course.now) (standing c.close.new.course) _ c.close.ensures is)

pub returns-in-Answered-clause-enters : goal.returns-in-Answered-clause-enters
returns-in-Answered-clause-enters g c =
    enters_ok (standing c.args.course.now) (g.D.TryDesk.seated c.args.desk.now) (g.D.TryDesk.seated c.try_ask-asked.new.self) (g.D.TryDesk.busy c.args.desk.now) (g.D.TryDesk.busy c.try_ask-asked.new.self) c.in-Ok.who c.in-Ok.ensures c.in-Answered.field-0 _ c.in-Answered.ensures.attempts c.in-Answered.ensures.counts refl

pub returns-in-Answered-clause-fits_still : goal.returns-in-Answered-clause-fits_still
returns-in-Answered-clause-fits_still g c =
    fits_entered (standing c.args.course.now) (g.D.TryDesk.seated c.args.desk.now) (g.D.TryDesk.seated c.try_ask-asked.new.self) (g.D.TryDesk.busy c.args.desk.now) (g.D.TryDesk.busy c.try_ask-asked.new.self) c.in-Ok.who c.in-Ok.ensures c.known.ensures c.known-2.ensures (ap (λ (z : Standing). z.turn) c.requires.fresh) c.requires.fits c.in-Answered.field-0 c.in-Answered.ensures.attempts

pub returns-in-Refused-clause-enters : goal.returns-in-Refused-clause-enters
returns-in-Refused-clause-enters g c =
    enters_err (standing c.args.course.now) (g.D.TryDesk.seated c.args.desk.now) (g.D.TryDesk.seated c.try_ask-asked.new.self) (g.D.TryDesk.busy c.args.desk.now) (g.D.TryDesk.busy c.try_ask-asked.new.self) c.in-Ok.who c.in-Ok.ensures c.in-Refused.refused _ c.in-Refused.ensures.attempts c.in-Refused.ensures.counts (rw (← c.refused_ending.ensures) c.close-in-Refused.ensures)

pub returns-in-Refused-clause-fits_still : goal.returns-in-Refused-clause-fits_still
returns-in-Refused-clause-fits_still g c =
    fits_over (standing c.args.course.now) (standing c.close-in-Refused.new.course) _ (g.D.TryDesk.seated c.try_ask-asked.new.self) c.close-in-Refused.ensures
    (fits_refused (standing c.args.course.now) (g.D.TryDesk.seated c.args.desk.now) (g.D.TryDesk.seated c.try_ask-asked.new.self) (g.D.TryDesk.busy c.args.desk.now) (g.D.TryDesk.busy c.try_ask-asked.new.self) c.in-Ok.who c.in-Ok.ensures c.known.ensures c.known-2.ensures (ap (λ (z : Standing). z.turn) c.requires.fresh) c.requires.fits c.in-Refused.refused c.in-Refused.ensures.attempts)

pub returns-in-Refused-clause-registered : goal.returns-in-Refused-clause-registered
returns-in-Refused-clause-registered g c = λ is. absurd (over_enters (standing c.args.course.now) (standing c.close-in-Refused.new.course) _ c.close-in-Refused.ensures is)

pub returns-in-Refused-clause-yields : goal.returns-in-Refused-clause-yields
returns-in-Refused-clause-yields g c = λ is. absurd (over_enters (standing c.args.course.now) (standing c.close-in-Refused.new.course) _ c.close-in-Refused.ensures is)

pub returns-clause-enters : goal.returns-clause-enters
returns-clause-enters g c =
    enters_busy (standing c.args.course.now) (g.D.TryDesk.seated c.args.desk.now) (g.D.TryDesk.seated c.try_ask-asked.new.self) (g.D.TryDesk.busy c.args.desk.now) (g.D.TryDesk.busy c.try_ask-asked.new.self) c.in-Ok.who c.in-Ok.ensures _ c.in-Busy.ensures.attempts c.in-Busy.ensures.counts

pub returns-clause-fits_still : goal.returns-clause-fits_still
returns-clause-fits_still g c =
    fits_waiting (standing c.args.course.now) (g.D.TryDesk.seated c.args.desk.now) (g.D.TryDesk.seated c.try_ask-asked.new.self) (g.D.TryDesk.busy c.args.desk.now) (g.D.TryDesk.busy c.try_ask-asked.new.self) c.in-Ok.who c.in-Ok.ensures c.known.ensures c.known-2.ensures (ap (λ (z : Standing). z.turn) c.requires.fresh) c.requires.fits _ c.in-Busy.ensures.attempts
