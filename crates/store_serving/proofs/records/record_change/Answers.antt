use Rattle.std.proofs.Common.{◌∙◌, List, ℕ, ap, sym}
use Rattle.portal_model.specs.declared.records.RecordChange.TheVariants.{SetEntry}
use Rattle.store_serving.specs.Records.{is_kept}
use Rattle.store_serving.proofs.SameRows.{kept-before, other-before}
use Rattle.store_serving.proofs.records.record_change.Goals as goal

pub returns-then-kept : goal.returns-then-kept
returns-then-kept c =
    let former = c.args.former.now in
    let change = c.args.change.now in
    kept-before former change (ap (λ (d : List ℕ). is_kept former change.rows d) (sym c.in_ok-datum.ensures) ∙ (sym c.in_ok-kept.ensures ∙ c.if-kept.true))

pub returns : goal.returns
returns c =
    let former = c.args.former.now in
    let change = c.args.change.now in (
      λ i. SetEntry (record { table = c.in_ok-replica.ensures i; id = c.in_ok-replica-2.ensures i; datum = (c.datum.view_is ∙ c.in_ok-datum.ensures) i; rows = c.in_ok-replica-3.ensures i }),
      other-before former change (ap (λ (d : List ℕ). is_kept former change.rows d) (sym c.in_ok-datum.ensures) ∙ (sym c.in_ok-kept.ensures ∙ c.if-kept.false)),
    )
