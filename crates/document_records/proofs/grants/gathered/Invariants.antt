use Rattle.std.proofs.Common.{◌≡◌, [], fold, take}
use Rattle.document_records.specs.Grants.{with_given}
use Rattle.document_records.proofs.grants.gathered.Given as goal

abbrev pub invariant-loop-grant : goal.invariant-loop-grant
invariant-loop-grant l = l.rights ≡ fold with_given [] (take l.grant-index l.grants)
