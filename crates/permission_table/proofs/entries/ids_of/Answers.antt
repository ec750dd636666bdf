use Rattle.std.proofs.Common.{◌∙◌}
use Rattle.permission_table.proofs.SortedIds.{sorted-ids}
use Rattle.permission_table.proofs.entries.ids_of.Goals as goal

pub returns : goal.returns
returns c =
    c.from_vec.ensures
    ∙ sorted-ids c.args.table.now c.args.entries.now c.in_ok-ids.ids.items c.sort.new.items.items c.requires c.in_ok-ids.ensures c.sort.ensures.same c.sort.ensures.order
