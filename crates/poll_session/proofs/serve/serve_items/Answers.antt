use Rattle.std.proofs.Common.{false, None, sym, ap, subst}
use Rattle.session.specs.declared.served.Served.TheVariants as served
use Rattle.poll_laws.specs.Courses.{Standing, sight, standing}
use Rattle.poll_session.specs.Serving.{Serves}
use Rattle.poll_ends.specs.Outside.{faults_alone}
use Rattle.poll_session.proofs.Serving.{all_sent, desk_busy, ends_asking, going_none, leave_serves, none_asked, one_asked, sink_fails, sink_waits}
use Rattle.poll_session.proofs.serve.serve_items.Goals as goal

pub items-init : goal.items-init
items-init g c = record {
  going = λ l r. going_none _ _ c.requires;
  kept = λ fact h. h;
  goes = g.met.D.TryDesk.stands c.args.desk.now;
}

pub ask_next-requires : goal.ask_next-requires
ask_next-requires g c = record { serves = (c.items.invariant.going None (faults_alone 0)).3; sent = c.in-All.ensures.flushes.0 }

pub items-smaller : goal.items-smaller
items-smaller g c = (c.in-Asked.ensures.asks None (faults_alone 0) None (faults_alone 0)).3.1

pub returns-in-Failed-clause-registered : goal.returns-in-Failed-clause-registered
returns-in-Failed-clause-registered g c = λ was is. absurd (leave_serves c.meet.new.course.turn served.WriteFault (ap (λ (z : Standing). z.turn) c.meet.ensures) is)

pub returns-in-Met-clause-registered : goal.returns-in-Met-clause-registered
returns-in-Met-clause-registered g c =
    λ was is. absurd (let asks = c.in-Met.ensures.asks None (faults_alone 0) None (faults_alone 0) in leave_serves c.ask_next.new.course.turn asks.3.0 asks.3.1 is)

pub returns-in-NotYet-clause-serves : goal.returns-in-NotYet-clause-serves
returns-in-NotYet-clause-serves g c l r = sink_waits _ _ _ _ _ _ l r _ _ _ _ (c.items.invariant.going l r) _ _ _ _ c.in-NotYet.ensures.flushes

pub returns-in-Failed-clause-serves : goal.returns-in-Failed-clause-serves
returns-in-Failed-clause-serves g c l r =
    subst
    (λ (z : Standing). Serves false (standing c.args.course.now) (sight (g.D.TryDesk.seated c.args.desk.now) (g.D.TryDesk.busy c.args.desk.now) l r (g.K.PollSink.told c.args.sink.now) (g.K.PollSink.counts c.args.sink.now)) z
    (sight (g.D.TryDesk.seated c.items.desk) (g.D.TryDesk.busy c.items.desk) l r (g.K.PollSink.told c.flush.new.sink) (g.K.PollSink.counts c.flush.new.sink)) c.flush.new.context.is_woken)
    (sym c.meet.ensures) (sink_fails _ _ _ _ _ _ l r _ _ _ _ (c.items.invariant.going l r) _ _ _ c.flush.new.context.is_woken c.in-Failed.ensures.flushes)

pub items-preserved : goal.items-preserved
items-preserved g c = record {
  going = λ l r. (one_asked _ _ _ _ _ _ l r _ _ _ _ (all_sent _ _ _ _ _ _ l r _ _ _ _ (c.items.invariant.going l r) _ _ _ c.in-All.ensures.flushes) _ _ _ (c.in-Asked.ensures.asks l r _ _)).0;
  kept = λ fact h. c.flush.ensures.kept fact (c.items.invariant.kept fact h);
  goes = g.met.D.TryDesk.follows _ _ _ c.items.invariant.goes c.ask_next.ensures.goes;
}

pub returns-in-NoItem-clause-serves : goal.returns-in-NoItem-clause-serves
returns-in-NoItem-clause-serves g c l r = none_asked _ _ _ _ _ _ l r _ _ _ _ (all_sent _ _ _ _ _ _ l r _ _ _ _ (c.items.invariant.going l r) _ _ _ c.in-All.ensures.flushes) _ _ _ c.flush.new.context.is_woken (c.in-NoItem.ensures.asks l r _ _)

pub returns-in-Busy-clause-serves : goal.returns-in-Busy-clause-serves
returns-in-Busy-clause-serves g c l r = desk_busy _ _ _ _ _ _ l r _ _ _ _ (all_sent _ _ _ _ _ _ l r _ _ _ _ (c.items.invariant.going l r) _ _ _ c.in-All.ensures.flushes) _ _ _ _ c.yield_now.ensures.woken (c.in-Busy.ensures.asks l r _ _)

pub returns-in-Met-clause-serves : goal.returns-in-Met-clause-serves
returns-in-Met-clause-serves g c l r = ends_asking _ _ _ _ _ _ l r _ _ _ _ (all_sent _ _ _ _ _ _ l r _ _ _ _ (c.items.invariant.going l r) _ _ _ c.in-All.ensures.flushes) _ _ _ _ (c.in-Met.ensures.asks l r _ _)
