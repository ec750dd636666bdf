use Rattle.served_world.proofs.OwnPlaceLaws.{own_looks_placed}
use Rattle.served_world.proofs.laws.own_looks_are_of_its_files.Goals as goal

pub returns : goal.returns
returns c = own_looks_placed
