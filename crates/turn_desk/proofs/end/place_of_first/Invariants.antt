use Rattle.std.proofs.Common.{◌≡◌, ◌≢◌, ℕ, ◌<◌, Some}
use Rattle.std.specs.Prelude.{slice_get}
use Rattle.turn_desk.proofs.end.place_of_first.Given as goal

abbrev pub invariant-loop-at : goal.invariant-loop-at
invariant-loop-at g l = (k : ℕ) (p : _) → slice_get l.fn.passes k ≡ Some p → k < l.at → p.knows.number ≢ 1
