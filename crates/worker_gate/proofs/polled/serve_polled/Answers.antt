use Rattle.std.proofs.Common.{refl, sym, subst}
use Rattle.session.specs.Ledger.{world}
use Rattle.session.specs.Pumps.{spring}
use Rattle.poll_laws.specs.Courses.{Standing, fresh, standing}
use Rattle.poll_laws.specs.Laws.{Does}
use Rattle.poll_laws.specs.Polls.{followed_by}
use Rattle.poll_laws.proofs.Joining.{one_step}
use Rattle.poll_laws.proofs.LawsOfPolls.{join, poll_does, whole}
use Rattle.poll_steps.proofs.StepRuns.{nothing, runs_none}
use Rattle.worker_gate.specs.Polled.{sight_of}
use Rattle.worker_gate.proofs.polled.serve_polled.Goals as goal

pub polls-init : goal.polls-init
polls-init g c =
    let v = sight_of (g.D.TryDesk.busy c.args.desk) (spring (g.S.Source.left c.args.link.source) (g.S.Source.faults c.args.link.source)) (world (g.D.TryDesk.seated c.args.desk) (g.K.Sink.told c.args.link.sink) (g.K.Sink.faults c.args.link.sink)) in
    let parts = c.new-session.ensures.parts in (
      tt,
      tt,
      (nothing, rw (parts.0, parts.1, parts.2) (subst (λ (z : Standing). Does (fresh c.args.client) v nothing z v) (sym c.new-session.ensures.course) (record { runs = runs_none (fresh c.args.client) v; order = one_step (fresh c.args.client) v nothing (fresh c.args.client) v (runs_none (fresh c.args.client) v) refl; meets = tt }))),
      rw parts.0 (g.met.D.TryDesk.stands c.args.desk),
    )

pub polls-preserved : goal.polls-preserved
polls-preserved g c =
    let i = c.polls.invariant in
    let one = c.poll_once.ensures.polls in (
      tt,
      tt,
      (followed_by i.2.0 one.1.deeds, join _ _ i.2.0 _ _ one.1.deeds _ _ i.2.1 (poll_does _ _ _ _ _ _ one.1)),
      g.met.D.TryDesk.follows _ _ _ i.3 c.poll_once.ensures.goes,
    )

-- the poll that is ready
pub into_parts-requires : goal.into_parts-requires
into_parts-requires g c = (c.in-Ready.served, c.in-Ready.ensures.polls.1.answered)

pub returns-in-Ready-clause-serves : goal.returns-in-Ready-clause-serves
returns-in-Ready-clause-serves g c =
    let i = c.polls.invariant in
    let one = c.in-Ready.ensures.polls in
    let does = join _ _ i.2.0 _ _ one.1.deeds _ _ i.2.1 (poll_does _ _ _ _ _ _ one.1) in
    let end = c.ended.ensures in
    let parts = c.into_parts.ensures.parts in
    rw (end.served, end.desk, end.source, end.sink) (rw (parts.0, parts.1, parts.2) (record {
      before = g.D.TryDesk.busy c.args.desk;
      after = g.D.TryDesk.busy c.poll_once.new.session.desk;
      deeds = followed_by i.2.0 one.1.deeds;
      stands = standing c.poll_once.new.session.course;
      is = whole c.args.client _ (followed_by i.2.0 one.1.deeds) (standing c.poll_once.new.session.course) _ c.in-Ready.served does one.1.answered;
    }))

pub returns-in-Ready-clause-closed_now : goal.returns-in-Ready-clause-closed_now
returns-in-Ready-clause-closed_now g c = rw c.ended.ensures.desk (rw c.into_parts.ensures.parts.0 c.in-Ready.ensures.closed_now)

pub returns-in-Ready-clause-known : goal.returns-in-Ready-clause-known
returns-in-Ready-clause-known g c = rw c.ended.ensures.desk (rw c.into_parts.ensures.parts.0 c.poll_once.ensures.known)

pub returns-in-Ready-clause-goes : goal.returns-in-Ready-clause-goes
returns-in-Ready-clause-goes g c =
    rw c.ended.ensures.desk (rw c.into_parts.ensures.parts.0 (g.met.D.TryDesk.follows _ _ _ c.polls.invariant.3 c.poll_once.ensures.goes))
