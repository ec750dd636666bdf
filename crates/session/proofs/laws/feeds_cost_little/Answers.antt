use Rattle.session.proofs.RoomIsEnough.{feeds_cost}
use Rattle.session.proofs.laws.feeds_cost_little.Goals as goal

pub returns : goal.returns
returns c = feeds_cost
