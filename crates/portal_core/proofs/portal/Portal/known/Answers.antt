use Rattle.std.proofs.Common.{None, subst}
use Rattle.portal_desk.proofs.Openings.{opens-over}
use Rattle.portal_model.proofs.ValidLaws.{run-Valid}
use Rattle.portal_model.specs.History.{Legal}
use Rattle.portal_steps.specs.Story.{state_first}
use Rattle.portal_core.proofs.portal.Portal.known.Goals as goal

pub returns-clause-started : goal.returns-clause-started
returns-clause-started g c = rw (← c.self.view_is) (opens-over None (g.T.HostTree.is c.self.inside.tree).began c.self.inside.opening c.self.invariant.4 c.known.ensures.began)

pub returns-clause-valid : goal.returns-clause-valid
returns-clause-valid g c = run-Valid c.args.self.now.story.history (state_first c.args.self.now.story) (rw (← c.self.view_is) c.self.invariant.0.legal)

pub returns-clause-opens : goal.returns-clause-opens
returns-clause-opens g c before earlier between opening rest app r flags is opens =
    let first = state_first c.args.self.now.story in
    let legal : Legal first c.args.self.now.story.history = rw (← c.self.view_is) c.self.invariant.0.legal in
    c.no_open_after_a_revocation.ensures first before earlier between opening rest app r flags (subst (Legal first) is legal) opens

pub returns-clause-handles : goal.returns-clause-handles
returns-clause-handles g c before opening between later rest fh r is told seat request goes ended =
    let first = state_first c.args.self.now.story in
    let legal : Legal first c.args.self.now.story.history = rw (← c.self.view_is) c.self.invariant.0.legal in
    c.older_handles_keep_their_rights.ensures first before opening between later rest fh r (subst (Legal first) is legal) told seat request goes ended
