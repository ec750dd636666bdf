use Rattle.std.proofs.Common.{◌≡◌, false, is_some}
use Rattle.portal_desk.specs.Knowing.{Known}
use Rattle.portal_model.specs.Seated.{is_open, state_seen}
use Rattle.session.specs.Standings.{client}
use Rattle.worker_gate.specs.Working.{hall, sides}
use Rattle.worker_gate.proofs.Links.{SoFar}
use Rattle.worker_gate.proofs.worker.work.Given as goal

abbrev pub invariant-links : goal.invariant-links
invariant-links g l =
    (goal.iterator-links g).can_next l.iterator'
    × (goal.iterator-links g).is_finite l.iterator'
    × SoFar (sides g.L.In.Source.left g.L.In.Source.faults g.L.Out.Sink.told g.L.Out.Sink.faults)
    l.fn.post.polled
    (client l.fn.post.who l.fn.post.kind l.settings)
    (hall (g.L.Listener.links l.fn.post.listener) (g.L.Listener.ends l.fn.post.listener) (g.L.Listener.faults l.fn.post.listener))
    (g.D.Desk.seated l.fn.desk)
    (hall (g.L.Listener.links l.post.listener) (g.L.Listener.ends l.post.listener) (g.L.Listener.faults l.post.listener))
    (g.D.Desk.seated l.desk)
    × (is_open (state_seen (g.D.Desk.seated l.desk)) (g.D.Desk.seated l.desk).seat ≡ false)
    × Known (g.D.Desk.seated l.desk)
    × (l.post.who ≡ l.fn.post.who)
    × (l.post.kind ≡ l.fn.post.kind)
    × (l.post.polled ≡ l.fn.post.polled)
    × g.D.Desk.goes l.fn.desk l.desk
    × (is_some l.task ≡ l.fn.post.polled)
