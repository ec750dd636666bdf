use Rattle.permission_table.proofs.IndexPlaces.{none-placed}
use Rattle.permission_table.proofs.index.EntryIndex.new.Goals as goal

pub returns : goal.returns
returns c = none-placed c.new.result c.new.ensures.empty
