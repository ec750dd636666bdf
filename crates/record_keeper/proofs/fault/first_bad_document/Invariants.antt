use Rattle.std.proofs.Common.{take}
use Rattle.record_keeper.specs.BadRecords.{AllGood, IsGoodDocument}
use Rattle.record_keeper.specs.Earlier.{KeepsDocuments}
use Rattle.record_keeper.proofs.fault.first_bad_document.Given as goal

-- the documents so far are good, and are kept
abbrev pub invariant-loop-place : goal.invariant-loop-place
invariant-loop-place l = record {
  good : AllGood (IsGoodDocument l.version l.limits) (take l.place l.documents);
  kept : KeepsDocuments l.earlier (take l.place l.documents);
}
