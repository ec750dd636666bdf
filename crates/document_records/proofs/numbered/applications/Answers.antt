use Rattle.std.proofs.Common.{ap, ◌∙◌, List, ℕ}
use Rattle.portal_model.specs.Applications.{numbered}
use Rattle.document_records.proofs.FreshItems.{numbered_more}
use Rattle.document_records.proofs.numbered.applications.Goals as goal

pub loop-name-preserved : goal.loop-name-preserved
loop-name-preserved c =
    c.in_ok-number.ensures.ok ∙ ap (λ (named : List (List ℕ)). numbered named c.name-item.result) c.loop-name.invariant
    ∙ numbered_more c.args.names.now c.loop-name.name-index c.name-item.result c.loop-name-test.true c.name-item.is c.requires.differ
