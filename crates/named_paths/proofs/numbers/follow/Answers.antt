use Rattle.std.proofs.Common.{◌∙◌, sym}
use Rattle.named_paths.proofs.KeptNumbers.{left-followed}
use Rattle.named_paths.proofs.numbers.follow.Goals as goal

pub returns-then-is_entered : goal.returns-then-is_entered
returns-then-is_entered c = rw (← c.last_opened.ensures) c.follow_open.ensures

pub returns : goal.returns
returns c =
    left-followed c.args.seat _ c.args.handles.now.seats c.args.numbers.now c.remove.new.self
    (sym c.is_entered.ensures ∙ c.if-is_entered.false) c.remove.ensures.updates
