use Rattle.session.proofs.EndsStay.{ends_stay}
use Rattle.session.proofs.laws.ends_stay.Goals as goal

pub returns : goal.returns
returns c = ends_stay
