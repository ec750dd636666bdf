use Rattle.std.proofs.Common.{◌∙◌}
use Rattle.node_looks.proofs.Follow.{and-not, chosen, not-chosen}
use Rattle.node_looks.proofs.checked.in_folder.Goals as goal

pub returns-then-writes : goal.returns-then-writes
returns-then-writes c = λ t f w. chosen _ c.writes.result _ _ _ _ _ (c.writes.ensures ∙ and-not _ _ w) c.if-writes.true (c.refused.ensures t)

pub returns-else-writes : goal.returns-else-writes
returns-else-writes c = λ t f w. not-chosen _ c.writes.result _ _ _ _ _ (c.writes.ensures ∙ and-not _ _ w) c.if-writes.false (c.told.ensures t)
