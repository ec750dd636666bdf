use Rattle.std.proofs.Common.{fold, take, ap, ◌∙◌, List}
use Rattle.portal_model.specs.declared.records.GrantRecord.{GrantRecord}
use Rattle.portal_model.specs.declared.state.Triple.{Triple}
use Rattle.portal_model.specs.Opening.{with_grant}
use Rattle.portal_model.specs.Rights.{are_in_order}
use Rattle.portal_model.proofs.OpeningLaws.{ordered_grants}
use Rattle.document_records.specs.Given.{given_by}
use Rattle.document_records.proofs.OpeningRights.{are_named, fold-at, named_grant}
use Rattle.document_records.proofs.granted.add_grants.Goals as goal

pub add_grant-requires-clause-order : goal.add_grant-requires-clause-order
add_grant-requires-clause-order c =
    ap are_in_order c.loop-grant.invariant
    ∙ ordered_grants c.args.item.now.kept.number (take c.loop-grant.grant-index c.as_slice-grant-items.result.now) (given_by c.args.grants.now) c.requires.order

pub add_grant-requires-clause-names : goal.add_grant-requires-clause-names
add_grant-requires-clause-names c =
    let n = c.args.item.now.kept.number in
    let all = ap (λ (gs : List GrantRecord). are_named (fold (with_grant n) (given_by c.args.grants.now) gs)) c.as_slice-grant-items.ensures ∙ c.requires.names in
    ap (λ (rights : List Triple). are_named (with_grant n rights c.grant-item.result)) c.loop-grant.invariant
    ∙ fold-at (with_grant n) are_named (named_grant n) c.as_slice-grant-items.result.now (given_by c.args.grants.now) c.loop-grant.grant-index c.grant-item.result c.loop-grant-test.true c.grant-item.is all
