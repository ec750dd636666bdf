use Rattle.std.proofs.Common.{[], ap, refl, take, ◌∙◌, List}
use Rattle.portal_model.specs.declared.state.Triple.{Triple}
use Rattle.portal_model.specs.Opening.{with_grants}
use Rattle.portal_model.specs.Rights.{are_in_order}
use Rattle.portal_model.proofs.OpeningLaws.{ordered_kept}
use Rattle.document_records.proofs.OpeningRights.{are_named, fold-at, named_grants}
use Rattle.document_records.proofs.granted.rights.Goals as goal

pub add_grants-requires-clause-order : goal.add_grants-requires-clause-order
add_grants-requires-clause-order c = ap are_in_order c.loop-item.invariant ∙ ordered_kept (take c.loop-item.item-index c.args.items.now) [] refl

pub add_grants-requires-clause-names : goal.add_grants-requires-clause-names
add_grants-requires-clause-names c =
    ap (λ (rights : List Triple). are_named (with_grants rights c.item-item.result)) c.loop-item.invariant
    ∙ fold-at with_grants are_named named_grants c.args.items.now [] c.loop-item.item-index c.item-item.result c.loop-item-test.true c.item-item.is c.requires
