use Rattle.poll_laws.specs.Courses.{sight, standing}
use Rattle.poll_session.proofs.StageRuns.{begins_through, closed_over, covered, fresh_is, fresh_of, pending_owes, polls_as}
use Rattle.poll_session.proofs.poll_session.PollSessionFuture.poll.Goals as goal

pub returns-clause-polls : goal.returns-clause-polls
returns-clause-polls g c =
    let s = standing c.args.self.now.course in
    let v = sight (g.D.TryDesk.seated c.args.self.now.desk) (g.D.TryDesk.busy c.args.self.now.desk) (g.S.PollSource.left c.args.self.now.source) (g.S.PollSource.counts c.args.self.now.source) (g.K.PollSink.told c.args.self.now.sink) (g.K.PollSink.counts c.args.self.now.sink) in
    polls_as c.answer_of.result s v (standing c.leave_if_due.new.course) _ _
    (c.leave_if_due.ensures.left s v (g.S.PollSource.left c.attend_if_due.new.source) (g.S.PollSource.counts c.attend_if_due.new.source) (g.K.PollSink.told c.attend_if_due.new.sink) (g.K.PollSink.counts c.attend_if_due.new.sink)
    (c.attend_if_due.ensures.attended s v
    (c.enter_if_due.ensures.entered (g.S.PollSource.left c.args.self.now.source) (g.S.PollSource.counts c.args.self.now.source) (g.K.PollSink.told c.args.self.now.sink) (g.K.PollSink.counts c.args.self.now.sink))))
    c.answer_of.ensures

pub returns-clause-closed_now : goal.returns-clause-closed_now
returns-clause-closed_now g c = closed_over c.answer_of.result c.leave_if_due.new.course.turn (g.D.TryDesk.seated c.leave_if_due.new.desk) c.answer_of.ensures c.leave_if_due.ensures.fits_still

pub returns-clause-goes : goal.returns-clause-goes
returns-clause-goes g c = g.met.D.TryDesk.follows _ _ _ c.enter_if_due.ensures.goes (g.met.D.TryDesk.follows _ _ _ c.attend_if_due.ensures.goes c.leave_if_due.ensures.goes)

pub returns-clause-registered : goal.returns-clause-registered
returns-clause-registered g c =
    covered c.answer_of.result c.leave_if_due.new.context
    (pending_owes c.answer_of.result c.leave_if_due.new.course.turn _ c.answer_of.ensures
    (c.leave_if_due.ensures.registered (c.attend_if_due.ensures.registered c.enter_if_due.ensures.registered)))

pub returns-clause-kept : goal.returns-clause-kept
returns-clause-kept g c = λ fact h. c.leave_if_due.ensures.kept fact (c.attend_if_due.ensures.kept fact (c.enter_if_due.ensures.kept fact h))

pub invariant_of-self : goal.invariant_of-self
invariant_of-self g c = record {
  fits = c.leave_if_due.ensures.fits_still;
  begins = λ due. fresh_of (standing c.leave_if_due.new.course) (begins_through (standing c.enter_if_due.new.course) (standing c.attend_if_due.new.course) (standing c.leave_if_due.new.course) c.leave_if_due.ensures.begins_still c.attend_if_due.ensures.begins_still c.enter_if_due.ensures.begins_still due);
  long = λ is. c.attend_if_due.ensures.long_still (c.leave_if_due.ensures.serves_still is);
}

pub enter_if_due-requires-clause-begins : goal.enter_if_due-requires-clause-begins
enter_if_due-requires-clause-begins g c = λ due. fresh_is (standing c.args.self.now.course) due (c.args.self.now.begins due)
