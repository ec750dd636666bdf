use Rattle.std.proofs.Common.{◌≡◌, take}
use Rattle.std.specs.List.{flat_map}
use Rattle.document_records.specs.Holdings.{record_left}
use Rattle.document_records.proofs.holdings.records_left.Given as goal

-- the records of the grants so far
abbrev pub invariant-loop-grant : goal.invariant-loop-grant
invariant-loop-grant l = l.records ≡ flat_map (record_left l.app l.id.number l.rights) (take l.grant-index l.grants)
