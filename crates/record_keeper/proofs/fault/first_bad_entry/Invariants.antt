use Rattle.std.proofs.Common.{take}
use Rattle.record_keeper.specs.BadRecords.{AllGood, IsGoodEntry}
use Rattle.record_keeper.specs.Earlier.{KeepsKeys}
use Rattle.record_keeper.proofs.fault.first_bad_entry.Given as goal

-- the entries so far are good, and their keys are kept
abbrev pub invariant-loop-place : goal.invariant-loop-place
invariant-loop-place l = record {
  good : AllGood IsGoodEntry (take l.place l.entries);
  kept : KeepsKeys l.keys (take l.place l.entries);
}
