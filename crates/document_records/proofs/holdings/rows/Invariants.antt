use Rattle.std.proofs.Common.{◌≡◌, take}
use Rattle.std.specs.List.{flat_map}
use Rattle.document_records.specs.Holdings.{row_held}
use Rattle.document_records.proofs.holdings.rows.Given as goal

-- the rows of the grants so far
abbrev pub invariant-loop-grant : goal.invariant-loop-grant
invariant-loop-grant l = l.rows ≡ flat_map (row_held l.id.number) (take l.grant-index l.grants)
