use Rattle.portal_model.proofs.NodeLawsHold.{refusals-change-nothing}
use Rattle.portal_model.proofs.node_laws.refusals_on_nodes_change_nothing.Goals as goal

pub returns : goal.returns
returns c = refusals-change-nothing
