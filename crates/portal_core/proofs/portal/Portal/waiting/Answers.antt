use Rattle.portal_model.proofs.ValidLaws.{run-Valid}
use Rattle.portal_model.specs.Opening.{opened_over}
use Rattle.portal_model.specs.History.{run}
use Rattle.portal_core.proofs.WaitingSeats.{waits_as}
use Rattle.portal_core.proofs.portal.Portal.waiting.Goals as goal

pub returns : goal.returns
returns g c =
    let k = c.self.inside in
    let first = opened_over (g.T.HostTree.is k.tree).began k.opening in
    rw (← c.self.view_is) (waits_as (run first k.history.entries) c.args.seat k.outboxes (run-Valid k.history.entries first c.self.invariant.0.legal) c.self.invariant.3.waiting c.waiting.result c.waiting.ensures)
