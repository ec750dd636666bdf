use Rattle.std.proofs.Common.{ℕ, drop}
use Rattle.std.specs.Prelude.{All}
use Rattle.store_data.specs.Walks.{Keeps, Stands}
use Rattle.store_data.proofs.WalkedParts.{OnWay}
use Rattle.store_data.proofs.values.+value_end.Given as goal

-- the walk stands ahead of those that are left
abbrev pub invariant-values_end-loop-value : goal.invariant-values_end-loop-value
invariant-values_end-loop-value l = (passed at : ℕ) → All Keeps l.values → Stands passed at l.fn.walk → OnWay passed at l.values (drop l.value-index l.values) l.end
