use Rattle.served_world.proofs.OwnLooks.{own_looks_alone}
use Rattle.served_world.proofs.laws.traces_hold_own_looks.Goals as goal

pub returns : goal.returns
returns c = own_looks_alone
