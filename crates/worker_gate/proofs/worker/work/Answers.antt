use Rattle.std.proofs.Common.{refl, sym, ◌∙◌}
use Rattle.session.specs.Standings.{client}
use Rattle.worker_gate.specs.Listening.{link}
use Rattle.worker_gate.specs.Working.{hall, sides, visit}
use Rattle.worker_gate.proofs.Links.{OneMore, ends_closed, ends_failed, ends_full, ends_unbegun, ends_wanting, none_yet, not_full, of_same, one_more}
use Rattle.worker_gate.proofs.worker.work.Goals as goal
use Rattle.worker_gate.proofs.worker.work.Goals.{After-done}

-- no link was accepted
pub returns-in_default-clause-works : goal.returns-in_default-clause-works
returns-in_default-clause-works g c =
    let t = g.L.Listener in
    let p = c.args.post.now in
    ends_unbegun
    (sides g.L.In.Source.left g.L.In.Source.faults g.L.Out.Sink.told g.L.Out.Sink.faults)
    p.polled
    (client p.who p.kind c.args.settings.now)
    (hall (t.links p.listener) (t.ends p.listener) (t.faults p.listener))
    (g.D.Desk.seated c.args.desk.now)

pub returns-in_default-clause-goes : goal.returns-in_default-clause-goes
returns-in_default-clause-goes g c = g.met.D.Desk.stands c.args.desk.now

-- the task of the polls is there where the post is polled
pub serve_link-source-requires-clause-polled : goal.serve_link-source-requires-clause-polled
serve_link-source-requires-clause-polled g c = c.links.invariant.9 ∙ sym c.links.invariant.7

pub links-init : goal.links-init
links-init g c =
    let t = g.L.Listener in
    let p = c.args.post.now in (
      tt,
      tt,
      none_yet
          (sides g.L.In.Source.left g.L.In.Source.faults g.L.Out.Sink.told g.L.Out.Sink.faults)
          p.polled
          (client p.who p.kind c.args.settings.now)
          (hall (t.links p.listener) (t.ends p.listener) (t.faults p.listener))
          (g.D.Desk.seated c.args.desk.now),
      c.requires,
      c.known.ensures,
      refl,
      refl,
      refl,
      g.met.D.Desk.stands c.args.desk.now,
      c.in-Ok.ensures,
    )

-- the link that was served
served_one : (g : _) (c : After-done g) → OneMore {S = g.row.L-In.Denot} {K = g.row.L-Out.Denot}
    (sides g.L.In.Source.left g.L.In.Source.faults g.L.Out.Sink.told g.L.Out.Sink.faults)
    c.args.post.now.polled
    (client c.args.post.now.who c.args.post.now.kind c.args.settings.now)
    (hall (g.L.Listener.links c.args.post.now.listener) (g.L.Listener.ends c.args.post.now.listener) (g.L.Listener.faults c.args.post.now.listener))
    (hall (g.L.Listener.links c.links.post.listener) (g.L.Listener.ends c.links.post.listener) (g.L.Listener.faults c.links.post.listener))
    (hall (g.L.Listener.links c.accept.new.self) (g.L.Listener.ends c.accept.new.self) (g.L.Listener.faults c.accept.new.self))
    (hall (g.L.Listener.links c.done.new.self) (g.L.Listener.ends c.done.new.self) (g.L.Listener.faults c.done.new.self))
    (g.D.Desk.seated c.args.desk.now)
    (g.D.Desk.seated c.links.desk)
    (g.D.Desk.seated c.serve_link-source.new.desk)
    c.in-Link.source
    c.in-Link.sink
    (visit c.serve_link-source.result.1 c.serve_link-source.ensures.serves.0)
    c.serve_link-source.result.0
served_one g c =
    let p = c.args.post.now in
    let i = c.links.invariant in
    let served = c.serve_link-source.ensures.serves in
    record {
      far = i.2;
      accepts = c.in-Link.ensures.accepts;
      ends = c.in-Link.ensures.counts.0;
      faults = c.in-Link.ensures.counts.1;
      back_is = c.done.ensures.links;
      ends_still = c.done.ensures.ends;
      faults_still = c.done.ensures.faults;
      serves = of_same
          (sides g.L.In.Source.left g.L.In.Source.faults g.L.Out.Sink.told g.L.Out.Sink.faults)
          p.polled
          c.links.post.polled
          p.who
          c.links.post.who
          p.kind
          c.links.post.kind
          c.args.settings.now
          (link c.in-Link.source c.in-Link.sink)
          c.serve_link-source.result.0
          (visit c.serve_link-source.result.1 served.0)
          (g.D.Desk.seated c.links.desk)
          (g.D.Desk.seated c.serve_link-source.new.desk)
          i.7
          i.5
          i.6
          served.1;
    }

pub links-preserved : goal.links-preserved
links-preserved g c =
    let i = c.links.invariant in
    let o = served_one g (goal.at.links-preserved g c).After-done in (
      tt,
      tt,
      one_more _ _ _ _ _ _ _ _ _ _ _ _ _ _ o (not_full c.serve_link-source.result.1 c.in_default-served.not-Full),
      o.serves.closed,
      o.serves.known,
      i.5,
      i.6,
      i.7,
      g.met.D.Desk.follows c.args.desk.now c.links.desk c.serve_link-source.new.desk i.8 c.serve_link-source.ensures.goes,
      i.9,
    )

pub returns-in-Full-clause-works : goal.returns-in-Full-clause-works
returns-in-Full-clause-works g c =
    let o = served_one g (goal.at.returns-in-Full-clause-works g c).After-done in
    ends_full _ _ _ _ _ _ _ _ _ _ _ _ _ _ o c.in-Full.cost c.in-Full.limit c.in-Full.is

pub returns-in-Closed-clause-works : goal.returns-in-Closed-clause-works
returns-in-Closed-clause-works g c =
    let t = g.L.Listener in
    let p = c.args.post.now in
    let before = c.links.post.listener in
    let after = c.accept.new.self in
    ends_closed
    (sides g.L.In.Source.left g.L.In.Source.faults g.L.Out.Sink.told g.L.Out.Sink.faults)
    p.polled
    (client p.who p.kind c.args.settings.now)
    (hall (t.links p.listener) (t.ends p.listener) (t.faults p.listener))
    (hall (t.links before) (t.ends before) (t.faults before))
    (hall (t.links after) (t.ends after) (t.faults after))
    (g.D.Desk.seated c.args.desk.now)
    (g.D.Desk.seated c.links.desk)
    c.links.invariant.2
    c.in-Closed.ensures.accepts
    c.in-Closed.ensures.counts.0
    c.in-Closed.ensures.counts.1

pub returns-in-Failed-clause-works : goal.returns-in-Failed-clause-works
returns-in-Failed-clause-works g c =
    let t = g.L.Listener in
    let p = c.args.post.now in
    let before = c.links.post.listener in
    let after = c.accept.new.self in
    ends_failed
    (sides g.L.In.Source.left g.L.In.Source.faults g.L.Out.Sink.told g.L.Out.Sink.faults)
    p.polled
    (client p.who p.kind c.args.settings.now)
    (hall (t.links p.listener) (t.ends p.listener) (t.faults p.listener))
    (hall (t.links before) (t.ends before) (t.faults before))
    (hall (t.links after) (t.ends after) (t.faults after))
    (g.D.Desk.seated c.args.desk.now)
    (g.D.Desk.seated c.links.desk)
    c.links.invariant.2
    c.in-Failed.ensures.accepts
    c.in-Failed.ensures.counts.0
    c.in-Failed.ensures.counts.1

pub returns-in-Memory-clause-works : goal.returns-in-Memory-clause-works
returns-in-Memory-clause-works g c =
    let t = g.L.Listener in
    let p = c.args.post.now in
    let before = c.links.post.listener in
    let after = c.accept.new.self in
    ends_wanting
    (sides g.L.In.Source.left g.L.In.Source.faults g.L.Out.Sink.told g.L.Out.Sink.faults)
    p.polled
    (client p.who p.kind c.args.settings.now)
    (hall (t.links p.listener) (t.ends p.listener) (t.faults p.listener))
    (hall (t.links before) (t.ends before) (t.faults before))
    (hall (t.links after) (t.ends after) (t.faults after))
    (g.D.Desk.seated c.args.desk.now)
    (g.D.Desk.seated c.links.desk)
    c.links.invariant.2
    c.in-Memory.ensures.accepts
    c.in-Memory.ensures.counts.0
    c.in-Memory.ensures.counts.1
