use Rattle.portal_model.proofs.NodeLawsHold.{allowed-is-done}
use Rattle.portal_model.proofs.node_laws.what_is_allowed_on_nodes_is_done.Goals as goal

pub returns : goal.returns
returns c = allowed-is-done
