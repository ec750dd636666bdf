use Rattle.session.proofs.ItemsAreFound.{are_found}
use Rattle.session.proofs.laws.streams_have_items.Goals as goal

pub returns : goal.returns
returns c = are_found
