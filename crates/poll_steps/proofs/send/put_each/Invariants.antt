use Rattle.std.proofs.Common.{◌≡◌, ◌++◌, take}
use Rattle.session.specs.Items.{joined}
use Rattle.poll_steps.proofs.send.put_each.Given as goal

-- the pieces so far stand behind what was there
abbrev pub invariant-pieces : goal.invariant-pieces
invariant-pieces l = l.unsent.items ≡ l.fn.unsent.items ++ joined (take l.piece-index l.pieces)
