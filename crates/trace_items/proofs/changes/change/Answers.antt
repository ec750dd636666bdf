use Rattle.trace_items.proofs.changes.change.Goals as goal

pub create-requires : goal.create-requires
create-requires c = rw c.in-Create.is at c.requires.free
