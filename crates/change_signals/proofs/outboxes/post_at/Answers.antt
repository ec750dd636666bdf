use Rattle.std.proofs.Common.{◌≡◌, ◌∙◌, ap, Some, List, slice_get, rules}
use Rattle.std.specs.Map.{values_of}
use Rattle.indexmap.specs.IndexMap.{set_value_at}
use Rattle.portal_model.specs.declared.reply.Change.{Change}
use Rattle.change_signals.proofs.BoxLemmas.{set-same, on-err}
use Rattle.change_signals.proofs.outboxes.post_at.Goals as goal

pub returns-in-Some-clause-err : goal.returns-in-Some-clause-err
returns-in-Some-clause-err c =
    let there : slice_get (values_of c.args.boxes.now.entries) c.args.place ≡ Some c.in-Some.outbox.now = search rules in
    on-err c.push.result
    (λ same. ap (λ (xs : List Change). set_value_at c.args.boxes.now.entries c.args.place xs) same ∙ set-same c.args.boxes.now.entries c.args.place c.in-Some.outbox.now there)
    c.push.ensures.err
