use Rattle.std.proofs.Common.{◌≡◌, ◌∙◌, ap, ◌==◌, Some, List, rules}
use Rattle.std.specs.Map.{set_value}
use Rattle.std.proofs.lemmas.Map.Steps.{set_value_same}
use Rattle.portal_model.specs.declared.reply.Change.{Change}
use Rattle.change_signals.specs.Unsent.{unsent_on}
use Rattle.change_signals.proofs.BoxLemmas.{on-err}
use Rattle.change_signals.proofs.outboxes.take_at.Goals as goal

pub returns-in-Some-clause-err : goal.returns-in-Some-clause-err
returns-in-Some-clause-err c =
    let boxes = c.args.boxes.now.entries in
    let there : unsent_on boxes c.args.seat ≡ Some c.in-Some.outbox.now = search rules in
    on-err c.take.result
    (λ same. (c.get_mut.follows.holds c.take.new.self).0
    ∙ (ap (λ (w : List Change). set_value (λ s. c.args.seat == s) boxes w) same ∙ set_value_same (λ s. c.args.seat == s) boxes c.in-Some.outbox.now there))
    c.take.ensures.err
