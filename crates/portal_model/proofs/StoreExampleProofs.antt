-- The worked examples of calls of the permission store, by computation.
use Rattle.std.proofs.Common.{refl}
use Rattle.portal_model.specs.StoreExamples.{CostsOfCalls, Deletions, KeeperFaults, OrderOfRefusals, Readings, RowsThatGo}

pub readings : Readings
readings = record { list = refl; list_of_none = refl; lookup = refl; permissions = refl; no_row = refl; no_entry = refl; unchanged = refl }

pub deletions : Deletions
deletions = record { deletes = refl; waits = refl; told_then = refl; other_waits = refl; in_order = refl }

pub rows : RowsThatGo
rows = record { row = refl; no_row = refl; stands = refl; no_entry = refl; nothing_told = refl }

pub faults : KeeperFaults
faults = record { reply = refl; unchanged = refl }

pub order : OrderOfRefusals
order = record { application = refl; application_first = refl; text = refl; table = refl; entry = refl; not_here = refl }

pub costs : CostsOfCalls
costs = record { list = refl; row = refl }
