use Rattle.temporary_laws.proofs.Untold.{temporaries-untold}
use Rattle.temporary_laws.proofs.laws.temporaries_are_untold.Goals as goal

pub returns : goal.returns
returns c = temporaries-untold
