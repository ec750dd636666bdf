use Rattle.trace_items.proofs.OwnAddLaws.{both-there}
use Rattle.trace_items.proofs.adds.are_presented.Goals as goal

pub returns-then-add-queue : goal.returns-then-add-queue
returns-then-add-queue c = both-there c.args.queue.now c.args.add.now c.are_taken.result c.if-add-queue.true c.are_taken.ensures
