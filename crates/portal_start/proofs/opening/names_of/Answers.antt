use Rattle.std.proofs.Common.{ap, ◌∙◌, List, ℕ, take, sym, map}
use Rattle.std.specs.Prelude.{fold}
use Rattle.record_keeper.specs.BadRecords.{applications_of, names_granted}
use Rattle.record_keeper.specs.Naming.{also_named}
use Rattle.record_keeper.proofs.NamingFacts.{named_with_document}
use Rattle.portal_model.specs.declared.records.GrantRecord.{GrantRecord}
use Rattle.document_records.proofs.Loops.{one_more}
use Rattle.portal_start.proofs.opening.names_of.Goals as goal

pub loop-item-preserved : goal.loop-item-preserved
loop-item-preserved c =
    c.in_ok-add_granted.ensures ∙ ap (λ (gs : List GrantRecord). fold also_named c.loop-item.named (map (λ (g : GrantRecord). g.app) gs)) c.as_slice.ensures
    ∙ ap (λ (named : List (List ℕ)). fold also_named named (names_granted c.item-item.result)) c.loop-item.invariant
    ∙ named_with_document (take c.loop-item.item-index c.args.items.now) c.item-item.result
    ∙ ap applications_of (sym (one_more c.args.items.now c.loop-item.item-index c.item-item.result c.loop-item-test.true c.item-item.is))
