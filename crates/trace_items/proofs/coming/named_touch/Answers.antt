use Rattle.std.proofs.Common.{ℕ, List, ap, sym, ◌∙◌}
use Rattle.portal_model.specs.AddArguments.{document_paths}
use Rattle.trace_items.proofs.ComingLaws.{add-lent}
use Rattle.trace_items.proofs.NodeParts.{if-ok}
use Rattle.trace_items.proofs.coming.named_touch.Goals as goal

pub returns-in-Some : goal.returns-in-Some
returns-in-Some c =
    let planned = rw c.in-Some.is at c.in_ok-planned.ensures.some in
    if-ok c.add_touches-items.result c.add_touches-items.ensures (λ items f s k shows waiting other named order.
    f ∙ add-lent c.args.lent.now s shows c.args.app.now k c.args.add.now c.args.numbers.now _ (planned.paths ∙ ap (λ (q : List (List ℕ)). document_paths q c.args.add.now) (sym waiting)) other named)
