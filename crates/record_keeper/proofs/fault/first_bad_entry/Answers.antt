use Rattle.std.proofs.Common.{◌++◌, ◌∷◌, [], subst, take}
use Rattle.std.proofs.lemmas.List.{take_more}
use Rattle.portal_model.specs.declared.records.EntryRecord.{EntryRecord}
use Rattle.record_keeper.specs.BadRecords.{IsGoodEntry}
use Rattle.record_keeper.specs.Earlier.{KeepsKeys}
use Rattle.record_keeper.proofs.Behind.{first_bad, good_more}
use Rattle.record_keeper.proofs.fault.first_bad_entry.Goals as goal

pub returns-then-not-taken : goal.returns-then-not-taken
returns-then-not-taken c =
    let items = c.args.entries.now in
    let place = c.loop-place.place in
    let refused = (rw c.if-not-taken.true at c.in_ok-taken.ensures) (take place items) c.loop-place.invariant.kept in
    first_bad IsGoodEntry items place c.index-entries-place.result c.loop-place-test.true c.loop-place.invariant.good
    (subst (λ (d : EntryRecord). IsGoodEntry (take place items) d → ⊥) c.index-entries-place.is refused)

pub loop-place-preserved : goal.loop-place-preserved
loop-place-preserved c =
    let items = c.args.entries.now in
    let place = c.loop-place.place in
    let took = (rw c.if-not-taken.false at c.in_ok-taken.ensures) (take place items) c.loop-place.invariant.kept in
    record {
      good = good_more IsGoodEntry items place c.index-entries-place.result c.loop-place-test.true c.loop-place.invariant.good
          (subst (IsGoodEntry (take place items)) c.index-entries-place.is took.0);
      kept = rw (take_more items place c.index-entries-place.result c.loop-place-test.true)
          (subst (λ (d : EntryRecord). KeepsKeys c.take_entry.new.keys (take place items ++ (d ∷ []))) c.index-entries-place.is took.1);
    }
