use Rattle.std.proofs.Common.{sym, subst}
use Rattle.portal_base.specs.FolderNames.{AreInOrder}
use Rattle.host_tree.proofs.names.FolderNames.into_list.Goals as goal

pub returns-clause-order : goal.returns-clause-order
returns-clause-order c = subst AreInOrder (sym c.in_ok-list.ensures) c.are_in_order.ensures
