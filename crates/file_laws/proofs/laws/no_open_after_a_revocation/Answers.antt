use Rattle.file_laws.proofs.OpenRights.{opened}
use Rattle.file_laws.proofs.laws.no_open_after_a_revocation.Goals as goal

pub returns : goal.returns
returns c = opened
