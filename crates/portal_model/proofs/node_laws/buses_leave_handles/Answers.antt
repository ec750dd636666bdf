use Rattle.portal_model.proofs.NodeLawsHold.{handles-stay}
use Rattle.portal_model.proofs.node_laws.buses_leave_handles.Goals as goal

pub returns : goal.returns
returns c = handles-stay
