use Rattle.add_serving.proofs.PlaceSteps.{next-gone}
use Rattle.add_serving.proofs.queue.take_first.Goals as goal

pub loop-taken-preserved : goal.loop-taken-preserved
loop-taken-preserved c =
    next-gone c.args.queue.now c.loop-taken.queue c.remove.new.self c.loop-taken.taken c.args.count c.loop-taken.invariant c.remove.ensures.rest c.loop-taken-test.true c.requires
