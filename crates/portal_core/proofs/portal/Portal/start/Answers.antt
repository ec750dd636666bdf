use Rattle.portal_core.proofs.Beginning.{kept_first, valid_first}
use Rattle.portal_core.proofs.portal.Portal.start.Goals as goal

pub over-requires-clause-valid : goal.over-requires-clause-valid
over-requires-clause-valid g c =
    valid_first (g.T.HostTree.is c.args.tree).began c.in-Ok.lists.opening c.args.limits (g.K.Keeper.is c.args.keeper) (g.K.Keeper.is c.load.new.keeper) c.in-Ok.ensures.good c.in-Ok.ensures.valid c.known.ensures.began c.requires.first

pub over-requires-clause-kept : goal.over-requires-clause-kept
over-requires-clause-kept g c =
    kept_first (g.T.HostTree.is c.args.tree).began c.in-Ok.lists.opening c.args.limits (g.K.Keeper.is c.args.keeper) (g.K.Keeper.is c.load.new.keeper) c.in-Ok.ensures.good
