use Rattle.std.proofs.Common.{◌≡◌, ℕ, ◌+◌, [], Some, vec_len, vec_capacity}
use Rattle.std.specs.Prelude.{slice_get}
use Rattle.turn_desk.specs.Knowing.{fresh}
use Rattle.turn_desk.specs.Deals.{IsDealt}
use Rattle.turn_desk.proofs.start.spread.Given as goal

abbrev pub invariant-loop-k : goal.invariant-loop-k
invariant-loop-k g l = record {
  table : l.first.table_id ≡ l.fn.top.table_id;
  first : l.first.me ≡ (fresh 1 l.fn.first.me.0.opening l.fn.first.me.0.base l.k, []);
  len : vec_len l.passes + 1 ≡ l.k;
  cap : vec_capacity l.passes ≡ vec_capacity l.fn.passes;
  each : (k : ℕ) (p : _) → slice_get l.passes.items k ≡ Some p → IsDealt l.fn.top.table_id l.fn.first.me.0.opening l.fn.first.me.0.base 0 (k + 2) p;
}
