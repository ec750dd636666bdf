use Rattle.std.proofs.Common.{◌++◌, ◌∷◌, [], subst, take}
use Rattle.std.proofs.lemmas.List.{take_more}
use Rattle.portal_model.specs.declared.records.DocRecord.{DocRecord}
use Rattle.record_keeper.specs.BadRecords.{IsGoodDocument}
use Rattle.record_keeper.specs.Earlier.{KeepsDocuments}
use Rattle.record_keeper.proofs.Behind.{first_bad, good_more}
use Rattle.record_keeper.proofs.fault.first_bad_document.Goals as goal

pub returns-then-not-taken : goal.returns-then-not-taken
returns-then-not-taken c =
    let items = c.args.documents.now in
    let place = c.loop-place.place in
    let refused = (rw c.if-not-taken.true at c.in_ok-taken.ensures) (take place items) c.loop-place.invariant.kept in
    first_bad (IsGoodDocument c.args.version c.args.limits.now) items place c.index-documents-place.result c.loop-place-test.true c.loop-place.invariant.good
    (subst (λ (d : DocRecord). IsGoodDocument c.args.version c.args.limits.now (take place items) d → ⊥) c.index-documents-place.is refused)

pub loop-place-preserved : goal.loop-place-preserved
loop-place-preserved c =
    let items = c.args.documents.now in
    let place = c.loop-place.place in
    let took = (rw c.if-not-taken.false at c.in_ok-taken.ensures) (take place items) c.loop-place.invariant.kept in
    record {
      good = good_more (IsGoodDocument c.args.version c.args.limits.now) items place c.index-documents-place.result c.loop-place-test.true c.loop-place.invariant.good
          (subst (IsGoodDocument c.args.version c.args.limits.now (take place items)) c.index-documents-place.is took.0);
      kept = rw (take_more items place c.index-documents-place.result c.loop-place-test.true)
          (subst (λ (d : DocRecord). KeepsDocuments c.take.new.self (take place items ++ (d ∷ []))) c.index-documents-place.is took.1);
    }
