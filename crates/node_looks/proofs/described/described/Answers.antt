use Rattle.node_looks.proofs.Follow.{chosen, not-chosen}
use Rattle.node_looks.proofs.described.described.Goals as goal

pub returns-then-names_handle : goal.returns-then-names_handle
returns-then-names_handle g c = λ s l. chosen _ c.names_handle.result _ _ _ _ _ c.names_handle.ensures c.if-names_handle.true (c.of_handle.ensures s l)

pub returns-else-names_handle : goal.returns-else-names_handle
returns-else-names_handle g c = λ s l. not-chosen _ c.names_handle.result _ _ _ _ _ c.names_handle.ensures c.if-names_handle.false (c.of_node.ensures s l)
