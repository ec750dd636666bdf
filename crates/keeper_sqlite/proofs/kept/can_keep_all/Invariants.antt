use Rattle.std.proofs.Common.{take}
use Rattle.std.specs.List.{All}
use Rattle.keeper_sqlite.specs.Kept.{CanKeep}
use Rattle.keeper_sqlite.proofs.kept.can_keep_all.Given as goal

-- those so far can be kept
abbrev pub invariant-loop-change : goal.invariant-loop-change
invariant-loop-change l = All CanKeep (take l.change-index l.changes)
