use Rattle.std.proofs.Common.{ap, not, refl}
use Rattle.node_looks.proofs.Follow.{chosen, not-chosen}
use Rattle.node_looks.proofs.described.of_file_where.Goals as goal

pub returns-then-reaches : goal.returns-then-reaches
returns-then-reaches g c = not-chosen (not c.args.reaches) (not c.args.reaches) _ _ _ _ _ refl (ap not c.if-reaches.true) c.of_file_named.ensures

pub returns-else-reaches : goal.returns-else-reaches
returns-else-reaches g c = chosen (not c.args.reaches) (not c.args.reaches) _ _ _ _ _ refl (ap not c.if-reaches.false) (c.refused.ensures _)
