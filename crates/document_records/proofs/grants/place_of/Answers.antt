use Rattle.std.proofs.Common.{rules}
use Rattle.std.proofs.lemmas.List.Sorted.{IsPartitionPoint-from_clause}
use Rattle.document_records.specs.Grants.{is_before}
use Rattle.document_records.proofs.GrantLemmas.{in-two-parts, parts-end}
use Rattle.document_records.proofs.grants.place_of.Goals as goal

pub returns : goal.returns
returns c =
    let parted = in-two-parts c.args.app.now c.args.id.number c.args.grants.now c.requires in
    parts-end (is_before c.args.app.now c.args.id.number) c.args.grants.now c.partition_point.result c.partition_point.ensures.bound
    (IsPartitionPoint-from_clause (is_before c.args.app.now c.args.id.number) _ _ c.partition_point.ensures.partitioned parted (λ a r q k. search rules))
