use Rattle.std.proofs.Common.{rules}
use Rattle.std.proofs.lemmas.List.Sorted.{IsPartitionPoint-from_clause}
use Rattle.portal_model.specs.Ordered.{bytes_less}
use Rattle.permission_table.proofs.InOrder.{in-two-parts, parts-end}
use Rattle.permission_table.proofs.ordered.place_of.Goals as goal

pub returns : goal.returns
returns g c =
    let key = g.T.Keyed.key_of in
    let parted = in-two-parts key c.args.key.now c.args.items.now c.requires in
    parts-end key (λ x. bytes_less (key x) c.args.key.now) c.args.items.now c.partition_point.result c.partition_point.ensures.bound
    (IsPartitionPoint-from_clause (λ x. bytes_less (key x) c.args.key.now) _ _ c.partition_point.ensures.partitioned parted (λ a r q k. search rules))
