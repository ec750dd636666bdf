use Rattle.file_laws.proofs.HostExampleProofs.{by_rights}
use Rattle.file_laws.proofs.examples.the_host_sees_by_rights.Goals as goal

pub returns : goal.returns
returns c = by_rights
