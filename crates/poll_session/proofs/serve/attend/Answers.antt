use Rattle.std.proofs.Common.{arith}
use Rattle.poll_laws.specs.Courses.{sight, standing}
use Rattle.poll_session.proofs.Serving.{attend_got, attend_met, attend_much, attend_on, attend_pauses, attend_waits, going_none, leave_serves}
use Rattle.poll_session.proofs.serve.attend.Goals as goal

pub pieces-init : goal.pieces-init
pieces-init g c = record { going = going_none _ _ c.requires.serves; long = c.requires.long; kept = λ fact h. h; goes = g.met.D.TryDesk.stands c.args.desk.now }

pub serve_items-requires : goal.serve_items-requires
serve_items-requires g c = c.pieces.invariant.going.3

-- an ending was met, or what is next waits
pub returns-then-not-serve_items : goal.returns-then-not-serve_items
returns-then-not-serve_items g c = record {
  attends = attend_pauses c.pieces.read (standing c.args.course.now) (sight (g.D.TryDesk.seated c.args.desk.now) (g.D.TryDesk.busy c.args.desk.now) (g.S.PollSource.left c.args.source.now) (g.S.PollSource.counts c.args.source.now) (g.K.PollSink.told c.args.sink.now) (g.K.PollSink.counts c.args.sink.now)) (standing c.pieces.course) (sight (g.D.TryDesk.seated c.pieces.desk) (g.D.TryDesk.busy c.pieces.desk) (g.S.PollSource.left c.pieces.source) (g.S.PollSource.counts c.pieces.source) (g.K.PollSink.told c.pieces.sink) (g.K.PollSink.counts c.pieces.sink)) c.pieces.invariant.going (standing c.serve_items.new.course) (sight (g.D.TryDesk.seated c.serve_items.new.desk) (g.D.TryDesk.busy c.serve_items.new.desk) (g.S.PollSource.left c.pieces.source) (g.S.PollSource.counts c.pieces.source) (g.K.PollSink.told c.serve_items.new.sink) (g.K.PollSink.counts c.serve_items.new.sink)) c.serve_items.new.context.is_woken (rw c.if-not-serve_items.true at (c.serve_items.ensures.serves (g.S.PollSource.left c.pieces.source) (g.S.PollSource.counts c.pieces.source)));
  long_still = c.pieces.invariant.long;
  registered = c.serve_items.ensures.registered c.if-not-serve_items.true;
  kept = λ fact h. c.serve_items.ensures.kept fact (c.pieces.invariant.kept fact h);
  goes = g.met.D.TryDesk.follows _ _ _ c.pieces.invariant.goes c.serve_items.ensures.goes;
}

-- as many bytes are read as a poll reads
pub returns-then-read-ge-MOST_READ : goal.returns-then-read-ge-MOST_READ
returns-then-read-ge-MOST_READ g c =
    let on = attend_on c.pieces.read (standing c.args.course.now) (sight (g.D.TryDesk.seated c.args.desk.now) (g.D.TryDesk.busy c.args.desk.now) (g.S.PollSource.left c.args.source.now) (g.S.PollSource.counts c.args.source.now) (g.K.PollSink.told c.args.sink.now) (g.K.PollSink.counts c.args.sink.now)) (standing c.pieces.course) (sight (g.D.TryDesk.seated c.pieces.desk) (g.D.TryDesk.busy c.pieces.desk) (g.S.PollSource.left c.pieces.source) (g.S.PollSource.counts c.pieces.source) (g.K.PollSink.told c.pieces.sink) (g.K.PollSink.counts c.pieces.sink)) c.pieces.invariant.going (standing c.serve_items.new.course) (sight (g.D.TryDesk.seated c.serve_items.new.desk) (g.D.TryDesk.busy c.serve_items.new.desk) (g.S.PollSource.left c.pieces.source) (g.S.PollSource.counts c.pieces.source) (g.K.PollSink.told c.serve_items.new.sink) (g.K.PollSink.counts c.serve_items.new.sink)) c.serve_items.new.context.is_woken (rw c.if-not-serve_items.false at (c.serve_items.ensures.serves (g.S.PollSource.left c.pieces.source) (g.S.PollSource.counts c.pieces.source))) in
    record {
      attends = attend_much c.pieces.read (standing c.args.course.now) (sight (g.D.TryDesk.seated c.args.desk.now) (g.D.TryDesk.busy c.args.desk.now) (g.S.PollSource.left c.args.source.now) (g.S.PollSource.counts c.args.source.now) (g.K.PollSink.told c.args.sink.now) (g.K.PollSink.counts c.args.sink.now)) (standing c.serve_items.new.course) (sight (g.D.TryDesk.seated c.serve_items.new.desk) (g.D.TryDesk.busy c.serve_items.new.desk) (g.S.PollSource.left c.pieces.source) (g.S.PollSource.counts c.pieces.source) (g.K.PollSink.told c.serve_items.new.sink) (g.K.PollSink.counts c.serve_items.new.sink)) c.yield_now.new.self.is_woken on.0 on.1 c.if-read-ge-MOST_READ.true c.yield_now.ensures.woken;
      long_still = c.pieces.invariant.long;
      registered = λ is. c.yield_now.ensures.armed;
      kept = λ fact h. c.yield_now.ensures.kept fact (c.serve_items.ensures.kept fact (c.pieces.invariant.kept fact h));
      goes = g.met.D.TryDesk.follows _ _ _ c.pieces.invariant.goes c.serve_items.ensures.goes;
    }

pub take_piece-requires : goal.take_piece-requires
take_piece-requires g c =
    let on = attend_on c.pieces.read (standing c.args.course.now) (sight (g.D.TryDesk.seated c.args.desk.now) (g.D.TryDesk.busy c.args.desk.now) (g.S.PollSource.left c.args.source.now) (g.S.PollSource.counts c.args.source.now) (g.K.PollSink.told c.args.sink.now) (g.K.PollSink.counts c.args.sink.now)) (standing c.pieces.course) (sight (g.D.TryDesk.seated c.pieces.desk) (g.D.TryDesk.busy c.pieces.desk) (g.S.PollSource.left c.pieces.source) (g.S.PollSource.counts c.pieces.source) (g.K.PollSink.told c.pieces.sink) (g.K.PollSink.counts c.pieces.sink)) c.pieces.invariant.going (standing c.serve_items.new.course) (sight (g.D.TryDesk.seated c.serve_items.new.desk) (g.D.TryDesk.busy c.serve_items.new.desk) (g.S.PollSource.left c.pieces.source) (g.S.PollSource.counts c.pieces.source) (g.K.PollSink.told c.serve_items.new.sink) (g.K.PollSink.counts c.serve_items.new.sink)) c.serve_items.new.context.is_woken (rw c.if-not-serve_items.false at (c.serve_items.ensures.serves (g.S.PollSource.left c.pieces.source) (g.S.PollSource.counts c.pieces.source))) in
    record { serves = on.0.3; idle = on.1; long = c.pieces.invariant.long }

-- nothing came yet
pub returns-in-NotYet : goal.returns-in-NotYet
returns-in-NotYet g c =
    let on = attend_on c.pieces.read (standing c.args.course.now) (sight (g.D.TryDesk.seated c.args.desk.now) (g.D.TryDesk.busy c.args.desk.now) (g.S.PollSource.left c.args.source.now) (g.S.PollSource.counts c.args.source.now) (g.K.PollSink.told c.args.sink.now) (g.K.PollSink.counts c.args.sink.now)) (standing c.pieces.course) (sight (g.D.TryDesk.seated c.pieces.desk) (g.D.TryDesk.busy c.pieces.desk) (g.S.PollSource.left c.pieces.source) (g.S.PollSource.counts c.pieces.source) (g.K.PollSink.told c.pieces.sink) (g.K.PollSink.counts c.pieces.sink)) c.pieces.invariant.going (standing c.serve_items.new.course) (sight (g.D.TryDesk.seated c.serve_items.new.desk) (g.D.TryDesk.busy c.serve_items.new.desk) (g.S.PollSource.left c.pieces.source) (g.S.PollSource.counts c.pieces.source) (g.K.PollSink.told c.serve_items.new.sink) (g.K.PollSink.counts c.serve_items.new.sink)) c.serve_items.new.context.is_woken (rw c.if-not-serve_items.false at (c.serve_items.ensures.serves (g.S.PollSource.left c.pieces.source) (g.S.PollSource.counts c.pieces.source))) in
    record {
      attends = attend_waits c.pieces.read (standing c.args.course.now) (sight (g.D.TryDesk.seated c.args.desk.now) (g.D.TryDesk.busy c.args.desk.now) (g.S.PollSource.left c.args.source.now) (g.S.PollSource.counts c.args.source.now) (g.K.PollSink.told c.args.sink.now) (g.K.PollSink.counts c.args.sink.now)) (standing c.serve_items.new.course) (sight (g.D.TryDesk.seated c.serve_items.new.desk) (g.D.TryDesk.busy c.serve_items.new.desk) (g.S.PollSource.left c.pieces.source) (g.S.PollSource.counts c.pieces.source) (g.K.PollSink.told c.serve_items.new.sink) (g.K.PollSink.counts c.serve_items.new.sink)) on.0 (standing c.take_piece.new.course) (sight (g.D.TryDesk.seated c.serve_items.new.desk) (g.D.TryDesk.busy c.serve_items.new.desk) (g.S.PollSource.left c.take_piece.new.source) (g.S.PollSource.counts c.take_piece.new.source) (g.K.PollSink.told c.serve_items.new.sink) (g.K.PollSink.counts c.serve_items.new.sink)) c.take_piece.new.context.is_woken on.1 (c.in-NotYet.ensures.takes (g.D.TryDesk.seated c.serve_items.new.desk) (g.D.TryDesk.busy c.serve_items.new.desk) (g.K.PollSink.told c.serve_items.new.sink) (g.K.PollSink.counts c.serve_items.new.sink));
      long_still = c.in-NotYet.ensures.long;
      registered = λ is. c.in-NotYet.ensures.registered;
      kept = λ fact h. c.in-NotYet.ensures.kept fact (c.serve_items.ensures.kept fact (c.pieces.invariant.kept fact h));
      goes = g.met.D.TryDesk.follows _ _ _ c.pieces.invariant.goes c.serve_items.ensures.goes;
    }

-- the connection ends
pub returns-in-Met : goal.returns-in-Met
returns-in-Met g c =
    let on = attend_on c.pieces.read (standing c.args.course.now) (sight (g.D.TryDesk.seated c.args.desk.now) (g.D.TryDesk.busy c.args.desk.now) (g.S.PollSource.left c.args.source.now) (g.S.PollSource.counts c.args.source.now) (g.K.PollSink.told c.args.sink.now) (g.K.PollSink.counts c.args.sink.now)) (standing c.pieces.course) (sight (g.D.TryDesk.seated c.pieces.desk) (g.D.TryDesk.busy c.pieces.desk) (g.S.PollSource.left c.pieces.source) (g.S.PollSource.counts c.pieces.source) (g.K.PollSink.told c.pieces.sink) (g.K.PollSink.counts c.pieces.sink)) c.pieces.invariant.going (standing c.serve_items.new.course) (sight (g.D.TryDesk.seated c.serve_items.new.desk) (g.D.TryDesk.busy c.serve_items.new.desk) (g.S.PollSource.left c.pieces.source) (g.S.PollSource.counts c.pieces.source) (g.K.PollSink.told c.serve_items.new.sink) (g.K.PollSink.counts c.serve_items.new.sink)) c.serve_items.new.context.is_woken (rw c.if-not-serve_items.false at (c.serve_items.ensures.serves (g.S.PollSource.left c.pieces.source) (g.S.PollSource.counts c.pieces.source))) in
    let takes = (c.in-Met.ensures.takes (g.D.TryDesk.seated c.serve_items.new.desk) (g.D.TryDesk.busy c.serve_items.new.desk) (g.K.PollSink.told c.serve_items.new.sink) (g.K.PollSink.counts c.serve_items.new.sink)) in
    record {
      attends = attend_met c.pieces.read (standing c.args.course.now) (sight (g.D.TryDesk.seated c.args.desk.now) (g.D.TryDesk.busy c.args.desk.now) (g.S.PollSource.left c.args.source.now) (g.S.PollSource.counts c.args.source.now) (g.K.PollSink.told c.args.sink.now) (g.K.PollSink.counts c.args.sink.now)) (standing c.serve_items.new.course) (sight (g.D.TryDesk.seated c.serve_items.new.desk) (g.D.TryDesk.busy c.serve_items.new.desk) (g.S.PollSource.left c.pieces.source) (g.S.PollSource.counts c.pieces.source) (g.K.PollSink.told c.serve_items.new.sink) (g.K.PollSink.counts c.serve_items.new.sink)) on.0 (standing c.take_piece.new.course) (sight (g.D.TryDesk.seated c.serve_items.new.desk) (g.D.TryDesk.busy c.serve_items.new.desk) (g.S.PollSource.left c.take_piece.new.source) (g.S.PollSource.counts c.take_piece.new.source) (g.K.PollSink.told c.serve_items.new.sink) (g.K.PollSink.counts c.serve_items.new.sink)) c.take_piece.new.context.is_woken takes;
      long_still = c.in-Met.ensures.long;
      registered = λ is. absurd (leave_serves c.take_piece.new.course.turn takes.2.0 takes.2.1 is);
      kept = λ fact h. c.in-Met.ensures.kept fact (c.serve_items.ensures.kept fact (c.pieces.invariant.kept fact h));
      goes = g.met.D.TryDesk.follows _ _ _ c.pieces.invariant.goes c.serve_items.ensures.goes;
    }

-- a piece came
pub overflow_add-read : goal.overflow_add-read
overflow_add-read g c = let takes = (c.in-Got.ensures.takes (g.D.TryDesk.seated c.serve_items.new.desk) (g.D.TryDesk.busy c.serve_items.new.desk) (g.K.PollSink.told c.serve_items.new.sink) (g.K.PollSink.counts c.serve_items.new.sink)) in omega (arith, takes.2.2, c.if-read-ge-MOST_READ.false)

pub pieces-smaller : goal.pieces-smaller
pieces-smaller g c = let takes = (c.in-Got.ensures.takes (g.D.TryDesk.seated c.serve_items.new.desk) (g.D.TryDesk.busy c.serve_items.new.desk) (g.K.PollSink.told c.serve_items.new.sink) (g.K.PollSink.counts c.serve_items.new.sink)) in omega (arith, takes.2.1, c.if-read-ge-MOST_READ.false)

pub pieces-preserved : goal.pieces-preserved
pieces-preserved g c =
    let on = attend_on c.pieces.read (standing c.args.course.now) (sight (g.D.TryDesk.seated c.args.desk.now) (g.D.TryDesk.busy c.args.desk.now) (g.S.PollSource.left c.args.source.now) (g.S.PollSource.counts c.args.source.now) (g.K.PollSink.told c.args.sink.now) (g.K.PollSink.counts c.args.sink.now)) (standing c.pieces.course) (sight (g.D.TryDesk.seated c.pieces.desk) (g.D.TryDesk.busy c.pieces.desk) (g.S.PollSource.left c.pieces.source) (g.S.PollSource.counts c.pieces.source) (g.K.PollSink.told c.pieces.sink) (g.K.PollSink.counts c.pieces.sink)) c.pieces.invariant.going (standing c.serve_items.new.course) (sight (g.D.TryDesk.seated c.serve_items.new.desk) (g.D.TryDesk.busy c.serve_items.new.desk) (g.S.PollSource.left c.pieces.source) (g.S.PollSource.counts c.pieces.source) (g.K.PollSink.told c.serve_items.new.sink) (g.K.PollSink.counts c.serve_items.new.sink)) c.serve_items.new.context.is_woken (rw c.if-not-serve_items.false at (c.serve_items.ensures.serves (g.S.PollSource.left c.pieces.source) (g.S.PollSource.counts c.pieces.source))) in
    record {
      going = attend_got c.pieces.read (standing c.args.course.now) (sight (g.D.TryDesk.seated c.args.desk.now) (g.D.TryDesk.busy c.args.desk.now) (g.S.PollSource.left c.args.source.now) (g.S.PollSource.counts c.args.source.now) (g.K.PollSink.told c.args.sink.now) (g.K.PollSink.counts c.args.sink.now)) (standing c.serve_items.new.course) (sight (g.D.TryDesk.seated c.serve_items.new.desk) (g.D.TryDesk.busy c.serve_items.new.desk) (g.S.PollSource.left c.pieces.source) (g.S.PollSource.counts c.pieces.source) (g.K.PollSink.told c.serve_items.new.sink) (g.K.PollSink.counts c.serve_items.new.sink)) on.0 (standing c.take_piece.new.course) (sight (g.D.TryDesk.seated c.serve_items.new.desk) (g.D.TryDesk.busy c.serve_items.new.desk) (g.S.PollSource.left c.take_piece.new.source) (g.S.PollSource.counts c.take_piece.new.source) (g.K.PollSink.told c.serve_items.new.sink) (g.K.PollSink.counts c.serve_items.new.sink)) c.take_piece.new.context.is_woken c.in-Got.len (c.in-Got.ensures.takes (g.D.TryDesk.seated c.serve_items.new.desk) (g.D.TryDesk.busy c.serve_items.new.desk) (g.K.PollSink.told c.serve_items.new.sink) (g.K.PollSink.counts c.serve_items.new.sink));
      long = c.in-Got.ensures.long;
      kept = λ fact h. c.in-Got.ensures.kept fact (c.serve_items.ensures.kept fact (c.pieces.invariant.kept fact h));
      goes = g.met.D.TryDesk.follows _ _ _ c.pieces.invariant.goes c.serve_items.ensures.goes;
    }
