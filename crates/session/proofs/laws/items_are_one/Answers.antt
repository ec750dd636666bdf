use Rattle.session.proofs.ItemsAreOne.{are_one}
use Rattle.session.proofs.laws.items_are_one.Goals as goal

pub returns : goal.returns
returns c = are_one
