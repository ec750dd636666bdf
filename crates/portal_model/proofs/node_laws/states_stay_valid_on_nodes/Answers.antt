use Rattle.portal_model.proofs.NodeLawsHold.{nodes-stay-valid}
use Rattle.portal_model.proofs.node_laws.states_stay_valid_on_nodes.Goals as goal

pub returns : goal.returns
returns c = nodes-stay-valid
