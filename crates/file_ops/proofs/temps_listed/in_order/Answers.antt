use Rattle.std.proofs.Common.{◌∙◌}
use Rattle.file_ops.specs.Temporaries.{puts}
use Rattle.file_ops.proofs.EntryOrder.{puts-all}
use Rattle.file_ops.proofs.temps_listed.in_order.Goals as goal

pub returns : goal.returns
returns c = c.from_vec.ensures ∙ (c.in_ok-put_each.ensures ∙ ((λ i. puts (c.into_vec-left.ensures i) (c.new-names.ensures.items i)) ∙ puts-all c.args.entries))
