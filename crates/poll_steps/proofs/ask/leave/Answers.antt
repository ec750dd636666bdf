use Rattle.session.proofs.SessionCalls.{leave_closes}
use Rattle.poll_laws.specs.Courses.{standing}
use Rattle.poll_steps.proofs.EnterLeave.{fits_leaving, fits_over, leaves_busy, leaves_never, leaves_ok, over_leaves}
use Rattle.poll_steps.proofs.ask.leave.Goals as goal

pub returns-in-Answered-clause-leaves : goal.returns-in-Answered-clause-leaves
returns-in-Answered-clause-leaves g c =
    leaves_ok (standing c.args.course.now) c.args.ending (g.D.TryDesk.seated c.args.desk.now) (g.D.TryDesk.seated c.try_ask-asked.new.self) (g.D.TryDesk.busy c.args.desk.now) (g.D.TryDesk.busy c.try_ask-asked.new.self) c.in-Answered.field-0 _ c.in-Answered.ensures.attempts c.in-Answered.ensures.counts c.close.ensures

pub returns-in-Answered-clause-fits_still : goal.returns-in-Answered-clause-fits_still
returns-in-Answered-clause-fits_still g c =
    fits_over (standing c.args.course.now) (standing c.close.new.course) c.args.ending (g.D.TryDesk.seated c.try_ask-asked.new.self) c.close.ensures
    (leave_closes (g.D.TryDesk.seated c.args.desk.now) (g.D.TryDesk.seated c.try_ask-asked.new.self) c.in-Answered.field-0 c.known.ensures c.known-2.ensures c.in-Answered.ensures.attempts)

pub returns-in-Answered-clause-registered : goal.returns-in-Answered-clause-registered
returns-in-Answered-clause-registered g c = λ is. absurd (over_leaves (standing c.args.course.now) (standing c.close.new.course) c.args.ending c.args.ending c.close.ensures is)

pub returns-in-Answered-clause-yields : goal.returns-in-Answered-clause-yields
returns-in-Answered-clause-yields g c = λ is. absurd (over_leaves (standing c.args.course.now) (standing c.close.new.course) c.args.ending c.args.ending c.close.ensures is)

pub returns-in-Refused-clause-leaves : goal.returns-in-Refused-clause-leaves
returns-in-Refused-clause-leaves g c =
    absurd (leaves_never (standing c.args.course.now) c.args.ending (g.D.TryDesk.seated c.args.desk.now) (g.D.TryDesk.seated c.try_ask-asked.new.self) (g.D.TryDesk.busy c.args.desk.now) (g.D.TryDesk.busy c.try_ask-asked.new.self) c.requires.due c.requires.fits c.in-Refused.field-0 c.in-Refused.ensures.attempts)

pub returns-in-Refused-clause-fits_still : goal.returns-in-Refused-clause-fits_still
returns-in-Refused-clause-fits_still g c =
    absurd (leaves_never (standing c.args.course.now) c.args.ending (g.D.TryDesk.seated c.args.desk.now) (g.D.TryDesk.seated c.try_ask-asked.new.self) (g.D.TryDesk.busy c.args.desk.now) (g.D.TryDesk.busy c.try_ask-asked.new.self) c.requires.due c.requires.fits c.in-Refused.field-0 c.in-Refused.ensures.attempts)

pub returns-in-Refused-clause-registered : goal.returns-in-Refused-clause-registered
returns-in-Refused-clause-registered g c = λ is. absurd (over_leaves (standing c.args.course.now) (standing c.close-in-Refused.new.course) c.args.ending c.args.ending c.close-in-Refused.ensures is)

pub returns-in-Refused-clause-yields : goal.returns-in-Refused-clause-yields
returns-in-Refused-clause-yields g c = λ is. absurd (over_leaves (standing c.args.course.now) (standing c.close-in-Refused.new.course) c.args.ending c.args.ending c.close-in-Refused.ensures is)

pub returns-clause-leaves : goal.returns-clause-leaves
returns-clause-leaves g c =
    leaves_busy (standing c.args.course.now) c.args.ending (g.D.TryDesk.seated c.args.desk.now) (g.D.TryDesk.seated c.try_ask-asked.new.self) (g.D.TryDesk.busy c.args.desk.now) (g.D.TryDesk.busy c.try_ask-asked.new.self) _ c.in-Busy.ensures.attempts c.in-Busy.ensures.counts

pub returns-clause-fits_still : goal.returns-clause-fits_still
returns-clause-fits_still g c =
    fits_leaving (standing c.args.course.now) c.args.ending (g.D.TryDesk.seated c.args.desk.now) (g.D.TryDesk.seated c.try_ask-asked.new.self) (g.D.TryDesk.busy c.args.desk.now) (g.D.TryDesk.busy c.try_ask-asked.new.self) c.requires.due c.requires.fits _ c.known.ensures c.known-2.ensures c.in-Busy.ensures.attempts
