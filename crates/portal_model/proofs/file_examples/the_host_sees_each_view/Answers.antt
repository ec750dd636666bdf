use Rattle.portal_model.proofs.FileExampleProofs.{host}
use Rattle.portal_model.proofs.file_examples.the_host_sees_each_view.Goals as goal

pub returns : goal.returns
returns c = host
