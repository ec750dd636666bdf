use Rattle.std.proofs.Common.{inl, inr, refl}
use Rattle.session.specs.declared.served.Served.TheVariants as served
use Rattle.poll_laws.specs.Courses.{standing}
use Rattle.poll_steps.proofs.EnterLeave.{fits_unopened, over_enters}
use Rattle.poll_session.proofs.StageRuns.{enter_due, enter_waits, not_entered, owes_entering, owes_none}
use Rattle.poll_session.proofs.stages.enter_if_due.Goals as goal

pub returns-in_default-clause-entered : goal.returns-in_default-clause-entered
returns-in_default-clause-entered g c l r o k = not_entered (standing c.args.course.now) _ _ c.in_default.not-Enter

pub returns-in_default-clause-registered : goal.returns-in_default-clause-registered
returns-in_default-clause-registered g c = owes_none c.args.course.now.turn _ c.in_default.not-Enter

pub returns-in_default-clause-kept : goal.returns-in_default-clause-kept
returns-in_default-clause-kept g c = λ fact h. h

pub returns-in_default-clause-goes : goal.returns-in_default-clause-goes
returns-in_default-clause-goes g c = g.met.D.TryDesk.stands c.args.desk.now

pub returns-then-not-make_room-clause-entered : goal.returns-then-not-make_room-clause-entered
returns-then-not-make_room-clause-entered g c l r o k =
    enter_due (standing c.args.course.now) (standing c.close.new.course) (g.D.TryDesk.seated c.args.desk.now) (g.D.TryDesk.seated c.args.desk.now) (g.D.TryDesk.busy c.args.desk.now) (g.D.TryDesk.busy c.args.desk.now) l r o k _ (c.requires.begins c.in-Enter.is)
    (λ is. absurd (over_enters (standing c.args.course.now) (standing c.close.new.course) served.Memory c.close.ensures is)) (inr (inr (inl (refl, refl, c.close.ensures))))

pub returns-then-not-make_room-clause-fits_still : goal.returns-then-not-make_room-clause-fits_still
returns-then-not-make_room-clause-fits_still g c =
    fits_unopened (standing c.args.course.now) (standing c.close.new.course) served.Memory (g.D.TryDesk.seated c.args.desk.now) c.in-Enter.is c.requires.fits c.close.ensures

pub returns-then-not-make_room-clause-begins_still : goal.returns-then-not-make_room-clause-begins_still
returns-then-not-make_room-clause-begins_still g c = λ is. absurd (over_enters (standing c.args.course.now) (standing c.close.new.course) served.Memory c.close.ensures is)

pub returns-then-not-make_room-clause-registered : goal.returns-then-not-make_room-clause-registered
returns-then-not-make_room-clause-registered g c = owes_none c.close.new.course.turn _ (λ is. over_enters (standing c.args.course.now) (standing c.close.new.course) served.Memory c.close.ensures is)

pub returns-then-not-make_room-clause-kept : goal.returns-then-not-make_room-clause-kept
returns-then-not-make_room-clause-kept g c = λ fact h. h

pub returns-then-not-make_room-clause-goes : goal.returns-then-not-make_room-clause-goes
returns-then-not-make_room-clause-goes g c = g.met.D.TryDesk.stands c.args.desk.now

pub enter-requires-clause-fresh : goal.enter-requires-clause-fresh
enter-requires-clause-fresh g c = c.requires.begins c.in-Enter.is

pub returns-clause-entered : goal.returns-clause-entered
returns-clause-entered g c l r o k =
    enter_due (standing c.args.course.now) (standing c.enter.new.course) (g.D.TryDesk.seated c.args.desk.now) (g.D.TryDesk.seated c.enter.new.desk) (g.D.TryDesk.busy c.args.desk.now) (g.D.TryDesk.busy c.enter.new.desk) l r o k _ (c.requires.begins c.in-Enter.is) c.enter.ensures.yields c.enter.ensures.enters

pub returns-clause-begins_still : goal.returns-clause-begins_still
returns-clause-begins_still g c =
    enter_waits (standing c.args.course.now) (standing c.enter.new.course) (g.D.TryDesk.seated c.args.desk.now) (g.D.TryDesk.seated c.enter.new.desk) (g.D.TryDesk.busy c.args.desk.now) (g.D.TryDesk.busy c.enter.new.desk) (c.requires.begins c.in-Enter.is) c.enter.ensures.enters

pub returns-clause-registered : goal.returns-clause-registered
returns-clause-registered g c = owes_entering c.enter.new.course.turn _ c.enter.ensures.registered
