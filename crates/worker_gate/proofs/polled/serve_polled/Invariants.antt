use Rattle.session.specs.Ledger.{world}
use Rattle.session.specs.Pumps.{spring}
use Rattle.poll_laws.specs.Courses.{fresh, standing}
use Rattle.poll_laws.specs.Laws.{Does}
use Rattle.poll_laws.specs.Polls.{Deeds}
use Rattle.worker_gate.specs.Polled.{sight_of}
use Rattle.worker_gate.proofs.polled.serve_polled.Given as goal

-- what the polls did so far
abbrev pub invariant-polls : goal.invariant-polls
invariant-polls g l =
    (goal.iterator-polls g).can_next l.iterator'
    × (goal.iterator-polls g).is_finite l.iterator'
    × ((d : Deeds) × Does (fresh l.fn.client)
    (sight_of (g.D.TryDesk.busy l.fn.desk) (spring (g.S.Source.left l.fn.link.source) (g.S.Source.faults l.fn.link.source)) (world (g.D.TryDesk.seated l.fn.desk) (g.K.Sink.told l.fn.link.sink) (g.K.Sink.faults l.fn.link.sink))) d
    (standing l.session.course)
    (sight_of (g.D.TryDesk.busy l.session.desk) (spring (g.S.Source.left l.session.source.source) (g.S.Source.faults l.session.source.source)) (world (g.D.TryDesk.seated l.session.desk) (g.K.Sink.told l.session.sink.sink) (g.K.Sink.faults l.session.sink.sink))))
    × g.D.TryDesk.goes l.fn.desk l.session.desk
