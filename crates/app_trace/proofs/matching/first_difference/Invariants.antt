use Rattle.std.proofs.Common.{◌≡◌, take}
use Rattle.app_trace.proofs.matching.first_difference.Given as goal

abbrev pub invariant-loop-place : goal.invariant-loop-place
invariant-loop-place g l = take l.place l.first ≡ take l.place l.second
