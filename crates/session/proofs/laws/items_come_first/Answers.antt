use Rattle.session.proofs.ItemsAreFound.{first_come}
use Rattle.session.proofs.laws.items_come_first.Goals as goal

pub returns : goal.returns
returns c = first_come
