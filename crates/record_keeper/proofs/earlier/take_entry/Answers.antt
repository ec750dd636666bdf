use Rattle.std.proofs.Common.{sym, ◌∙◌}
use Rattle.record_keeper.proofs.EarlierFacts.{entry_taken}
use Rattle.record_keeper.proofs.earlier.take_entry.Goals as goal

pub returns : goal.returns
returns c =
    entry_taken c.args.keys.now c.add.new.self c.args.entry.now c.in_ok-key.key (c.in_ok-sound.ensures.0 c.if-not-sound.false) c.in_ok-key.ensures
    (sym c.has.ensures ∙ c.if-has.false) c.in_ok-add.ensures.ok
