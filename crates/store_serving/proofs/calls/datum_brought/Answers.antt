use Rattle.store_serving.proofs.CallArguments.{no-handle}
use Rattle.store_serving.proofs.calls.datum_brought.Goals as goal

pub new-requires : goal.new-requires
new-requires c = no-handle c.in-Set.datum (rw (c.in-Set.is) at c.requires.data)

pub new-requires-in-SetValue : goal.new-requires-in-SetValue
new-requires-in-SetValue c = no-handle c.in-SetValue.datum (rw (c.in-SetValue.is) at c.requires.data)
