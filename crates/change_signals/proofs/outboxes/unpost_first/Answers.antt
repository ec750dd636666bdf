use Rattle.std.proofs.Common.{◌<◌, length, rules}
use Rattle.change_signals.specs.Unsent.{without_last}
use Rattle.change_signals.proofs.BoxLemmas.{one-more}
use Rattle.change_signals.proofs.outboxes.unpost_first.Goals as goal

pub loop-place-preserved : goal.loop-place-preserved
loop-place-preserved c =
    let within : c.loop-place.place < length c.args.boxes.now.entries = search rules in
    one-more without_last c.args.boxes.now.entries _ _ c.loop-place.place within c.loop-place.invariant c.unpost_at.ensures
