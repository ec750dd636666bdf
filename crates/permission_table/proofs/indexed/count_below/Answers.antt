use Rattle.std.proofs.Common.{rules, ℕ, nat_lt, []}
use Rattle.std.proofs.lemmas.List.Sorted.{IsPartitionPoint-from_clause}
use Rattle.permission_table.proofs.InOrder.{parts-end}
use Rattle.permission_table.proofs.PlacesRise.{in-two-parts}
use Rattle.permission_table.proofs.indexed.count_below.Goals as goal

pub returns : goal.returns
returns c =
    let place = c.args.place in
    let parted = in-two-parts place c.args.places.now c.requires in
    parts-end (λ _. []) (λ other. nat_lt other place) c.args.places.now c.partition_point.result c.partition_point.ensures.bound
    (IsPartitionPoint-from_clause (λ other. nat_lt other place) _ _ c.partition_point.ensures.partitioned parted (λ a r q k. search rules))
