use Rattle.std.proofs.Common.{◌<◌, ◌≤◌, ◌∙◌, length, rules}
use Rattle.change_signals.specs.Unsent.{with_last}
use Rattle.change_signals.proofs.BoxLemmas.{one-more, all-become, taken-back}
use Rattle.change_signals.proofs.outboxes.post_to_all.Goals as goal

pub returns-in-Err-clause-err : goal.returns-in-Err-clause-err
returns-in-Err-clause-err c =
    taken-back c.args.change.now c.args.boxes.now.entries _ _ c.loop-place.place (c.in-Err.ensures.err ∙ c.loop-place.invariant) c.unpost_first.ensures

pub loop-place-preserved : goal.loop-place-preserved
loop-place-preserved c =
    let within : c.loop-place.place < length c.args.boxes.now.entries = search rules in
    one-more (with_last c.args.change.now) c.args.boxes.now.entries _ _ c.loop-place.place within c.loop-place.invariant c.in-Ok.ensures.ok

pub returns-clause-ok : goal.returns-clause-ok
returns-clause-ok c =
    let past : length c.args.boxes.now.entries ≤ c.loop-place.place = search rules in
    all-become (with_last c.args.change.now) c.args.boxes.now.entries _ c.loop-place.place past c.loop-place.invariant
