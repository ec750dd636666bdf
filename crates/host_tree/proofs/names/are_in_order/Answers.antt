use Rattle.host_tree.proofs.NamesFound.{children-in-order}
use Rattle.host_tree.proofs.names.are_in_order.Goals as goal

pub returns : goal.returns
returns c = children-in-order c.args.names.now.entries c.iter.ensures.ordered
