use Rattle.folder_laws.proofs.SeatNamings.{namings-stay}
use Rattle.folder_laws.proofs.laws.namings_stay.Goals as goal

pub returns : goal.returns
returns c = namings-stay
