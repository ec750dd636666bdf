use Rattle.portal_model.proofs.WhoWaits.{app-quiet, mount-quiet, node_step-quiet}
use Rattle.portal_model.proofs.laws.hosts_alone_wait.Goals as goal

pub returns : goal.returns
returns c = record { mount = mount-quiet; application = app-quiet; on_node = node_step-quiet }
