use Rattle.std.specs.Prelude.{None}
use Rattle.std.proofs.Common.{sym, subst}
use Rattle.portal_model.specs.declared.opening.OpeningState.{OpeningState}
use Rattle.portal_model.specs.Opening.{opened_over}
use Rattle.portal_model.specs.Valid.{Valid}
use Rattle.portal_desk.proofs.Openings.{opens-over}
use Rattle.portal_desk.specs.Opening.{IsOpeningState}
use Rattle.portal_core.proofs.Beginning.{valid_untold}
use Rattle.portal_core.proofs.portal.Portal.reopen.Goals as goal

pub lists_of_opening-requires-clause-valid : goal.lists_of_opening-requires-clause-valid
lists_of_opening-requires-clause-valid g c = valid_untold c.args.opening (g.T.HostTree.is c.args.tree).began c.requires.valid

pub lists_of_opening-requires-clause-started : goal.lists_of_opening-requires-clause-started
lists_of_opening-requires-clause-started g c = opens-over (g.T.HostTree.is c.args.tree).began None c.args.opening c.requires.started tt

pub over-requires-clause-valid : goal.over-requires-clause-valid
over-requires-clause-valid g c = subst (λ (o : OpeningState). Valid (opened_over (g.T.HostTree.is c.args.tree).began o)) (sym c.in-Ok.ensures.opening) c.requires.valid

pub over-requires-clause-started : goal.over-requires-clause-started
over-requires-clause-started g c = subst (λ (o : OpeningState). IsOpeningState (opened_over None o)) (sym c.in-Ok.ensures.opening) (opens-over (g.T.HostTree.is c.args.tree).began None c.args.opening c.requires.started tt)
