use Rattle.file_laws.proofs.TouchLaws.{touches}
use Rattle.file_laws.proofs.laws.touches_are_of_what_is_held.Goals as goal

pub returns : goal.returns
returns c = touches
