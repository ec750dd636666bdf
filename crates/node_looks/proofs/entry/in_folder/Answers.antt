use Rattle.node_looks.proofs.Follow.{chosen, entered, not-chosen}
use Rattle.node_looks.proofs.entry.in_folder.Goals as goal

pub returns-then-is_name_of : goal.returns-then-is_name_of
returns-then-is_name_of g c = λ ns ts f. chosen _ c.is_name_of.result _ _ _ _ _ c.is_name_of.ensures c.if-is_name_of.true (entered c.args.request.now c.args.seen.document.now c.node_of-node.result _ _ _ _ _ c.node_of-node.ensures.node c.own_entry.ensures)

pub returns-else-is_name_of : goal.returns-else-is_name_of
returns-else-is_name_of g c = λ ns ts f. not-chosen _ c.is_name_of.result _ _ _ _ _ c.is_name_of.ensures c.if-is_name_of.false (c.temp_entry.ensures _ f)
