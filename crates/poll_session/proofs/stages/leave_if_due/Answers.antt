use Rattle.poll_laws.specs.Courses.{standing}
use Rattle.poll_session.proofs.StageRuns.{leave_due, leave_ends, leaving_begun, leaving_serves, not_left, owes_last, owes_leaving}
use Rattle.poll_session.proofs.stages.leave_if_due.Goals as goal

pub returns-in_default-clause-left : goal.returns-in_default-clause-left
returns-in_default-clause-left g c s v l r o k so = not_left s v (standing c.args.course.now) _ _ c.in_default.not-Leave so

pub returns-in_default-clause-registered : goal.returns-in_default-clause-registered
returns-in_default-clause-registered g c = λ owes. owes_last c.args.course.now.turn _ c.in_default.not-Leave owes

pub returns-in_default-clause-kept : goal.returns-in_default-clause-kept
returns-in_default-clause-kept g c = λ fact h. h

pub returns-in_default-clause-goes : goal.returns-in_default-clause-goes
returns-in_default-clause-goes g c = g.met.D.TryDesk.stands c.args.desk.now

pub returns-clause-left : goal.returns-clause-left
returns-clause-left g c s v l r o k so =
    leave_due s v (standing c.args.course.now) (standing c.leave.new.course) c.in-Leave.ending (g.D.TryDesk.seated c.args.desk.now) (g.D.TryDesk.seated c.leave.new.desk) (g.D.TryDesk.busy c.args.desk.now) (g.D.TryDesk.busy c.leave.new.desk) l r o k _ _ c.in-Leave.is c.leave.ensures.yields c.leave.ensures.leaves so

pub returns-clause-begins_still : goal.returns-clause-begins_still
returns-clause-begins_still g c =
    λ is. absurd (leaving_begun c.leave.new.course.turn c.in-Leave.ending (leave_ends (standing c.args.course.now) (standing c.leave.new.course) c.in-Leave.ending (g.D.TryDesk.seated c.args.desk.now) (g.D.TryDesk.seated c.leave.new.desk) (g.D.TryDesk.busy c.args.desk.now) (g.D.TryDesk.busy c.leave.new.desk) c.in-Leave.is c.leave.ensures.leaves) is)

pub returns-clause-serves_still : goal.returns-clause-serves_still
returns-clause-serves_still g c =
    λ is. absurd (leaving_serves c.leave.new.course.turn c.in-Leave.ending (leave_ends (standing c.args.course.now) (standing c.leave.new.course) c.in-Leave.ending (g.D.TryDesk.seated c.args.desk.now) (g.D.TryDesk.seated c.leave.new.desk) (g.D.TryDesk.busy c.args.desk.now) (g.D.TryDesk.busy c.leave.new.desk) c.in-Leave.is c.leave.ensures.leaves) is)

pub returns-clause-registered : goal.returns-clause-registered
returns-clause-registered g c =
    λ owes. owes_leaving c.leave.new.course.turn c.in-Leave.ending _ (leave_ends (standing c.args.course.now) (standing c.leave.new.course) c.in-Leave.ending (g.D.TryDesk.seated c.args.desk.now) (g.D.TryDesk.seated c.leave.new.desk) (g.D.TryDesk.busy c.args.desk.now) (g.D.TryDesk.busy c.leave.new.desk) c.in-Leave.is c.leave.ensures.leaves) c.leave.ensures.registered
