use Rattle.session.proofs.ItemsCostLittle.{cost_little}
use Rattle.session.proofs.laws.items_cost_little.Goals as goal

pub returns : goal.returns
returns c = cost_little
