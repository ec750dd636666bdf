use Rattle.file_laws.proofs.DoneOnBuses.{only-allowed}
use Rattle.file_laws.proofs.laws.only_what_is_allowed_is_done.Goals as goal

pub returns : goal.returns
returns c = only-allowed
