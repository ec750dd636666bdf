use Rattle.std.proofs.Common.{ap, ◌∙◌, List}
use Rattle.std.specs.List.{position}
use Rattle.portal_model.specs.RecordChanges.{is_numbered}
use Rattle.portal_model.specs.declared.records.DocRecord.{DocRecord}
use Rattle.record_keeper.proofs.FirstPassing.{first-changed, first-missing}
use Rattle.record_keeper.proofs.changes.set_grants.Goals as goal

pub returns-in-Some-clause-items : goal.returns-in-Some-clause-items
returns-in-Some-clause-items c =
    first-changed (is_numbered c.args.number) (λ d. record d { grants = c.args.grants }) c.args.documents.now.items c.in-Some.at c.index_mut.result.now
    (c.in-Some.ensures ∙ ap (λ (xs : List DocRecord). position (is_numbered c.args.number) xs) c.deref.ensures.value) c.index_mut.ensures.value

pub returns-in_default-clause-items : goal.returns-in_default-clause-items
returns-in_default-clause-items c =
    first-missing (is_numbered c.args.number) (λ d. record d { grants = c.args.grants }) c.args.documents.now.items
    (c.in_default.ensures ∙ ap (λ (xs : List DocRecord). position (is_numbered c.args.number) xs) c.deref.ensures.value)
