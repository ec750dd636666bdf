use Rattle.std.proofs.Common.{◌∙◌}
use Rattle.script_command.proofs.input.read_to_end.Goals as goal
use Rattle.script_command.proofs.BytesAhead.{read_on, too_long}

pub returns-in_default-clause-err : goal.returns-in_default-clause-err
returns-in_default-clause-err g c = (c.in-Got.ensures.counts ∙ c.pieces.invariant.counts, (_, read_on _ _ _ _ _ c.pieces.invariant.read c.in-Got.ensures.reads.2))

pub returns-then-len-gt-LONGEST_SCRIPT-clause-err : goal.returns-then-len-gt-LONGEST_SCRIPT-clause-err
returns-then-len-gt-LONGEST_SCRIPT-clause-err g c = (
  c.in-Got.ensures.counts ∙ c.pieces.invariant.counts,
  too_long _ _ _ _ _ _ _ _ c.pieces.invariant.read c.in-Got.ensures.reads.2 c.front-piece.ensures c.in-Ok.ensures.ok c.len.ensures c.if-len-gt-LONGEST_SCRIPT.true,
)
