use Rattle.poll_laws.specs.Courses.{standing}
use Rattle.poll_session.proofs.Attending.{attend_fits}
use Rattle.poll_session.proofs.StageRuns.{attended, begun, not_attended, owes_other, owes_serving}
use Rattle.poll_session.proofs.stages.attend_if_due.Goals as goal

pub returns-in_default-clause-attended : goal.returns-in_default-clause-attended
returns-in_default-clause-attended g c s v so = not_attended s v (standing c.args.course.now) _ _ c.in_default.not-Serve so

pub returns-in_default-clause-long_still : goal.returns-in_default-clause-long_still
returns-in_default-clause-long_still g c = λ is. absurd (c.in_default.not-Serve is)

pub returns-in_default-clause-registered : goal.returns-in_default-clause-registered
returns-in_default-clause-registered g c = λ owes. owes_other c.args.course.now.turn _ c.in_default.not-Serve owes

pub returns-in_default-clause-kept : goal.returns-in_default-clause-kept
returns-in_default-clause-kept g c = λ fact h. h

pub returns-in_default-clause-goes : goal.returns-in_default-clause-goes
returns-in_default-clause-goes g c = g.met.D.TryDesk.stands c.args.desk.now

pub returns-clause-attended : goal.returns-clause-attended
returns-clause-attended g c s v so =
    let a = c.attend.ensures.attends in
    attended s v (standing c.args.course.now) _ c.in-Serve.is (standing c.attend.new.course) _ _ _ so a.0 a.1 a.2 a.3

pub returns-clause-fits_still : goal.returns-clause-fits_still
returns-clause-fits_still g c = λ is. attend_fits (standing c.args.course.now) _ (standing c.attend.new.course) _ _ c.in-Serve.is c.attend.ensures.attends c.known.ensures c.known-2.ensures is

pub returns-clause-begins_still : goal.returns-clause-begins_still
returns-clause-begins_still g c =
    λ is. absurd (let a = c.attend.ensures.attends in begun c.attend.new.course.turn (standing c.args.course.now) _ a.0 (standing c.attend.new.course) _ _ a.2 is)

pub returns-clause-registered : goal.returns-clause-registered
returns-clause-registered g c =
    λ owes. let a = c.attend.ensures.attends in owes_serving c.attend.new.course.turn (standing c.args.course.now) _ a.0 (standing c.attend.new.course) _ _ _ a.2 c.attend.ensures.registered
