use Rattle.std.proofs.Common.{◌≡◌, take}
use Rattle.app_trace.proofs.same_store.+same_values.Given as goal

abbrev pub invariant-same_values-loop-index : goal.invariant-same_values-loop-index
invariant-same_values-loop-index l = take l.index l.a ≡ take l.index l.b
