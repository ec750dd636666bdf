use Rattle.file_laws.proofs.OlderHandleLaws.{kept}
use Rattle.file_laws.proofs.laws.older_handles_keep_their_rights.Goals as goal

pub returns : goal.returns
returns c = kept
