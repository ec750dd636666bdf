use Rattle.std.proofs.Common.{◌≡◌, ◌⊎◌, ℕ, ◌≤◌, [], Some, length, vec_len, false, take}
use Rattle.std.specs.Prelude.{slice_get}
use Rattle.turn_desk.specs.Views.{IsKept}
use Rattle.turn_desk.proofs.end.gather.Given as goal

abbrev pub invariant-loop-pass : goal.invariant-loop-pass
invariant-loop-pass g l = record {
  table : l.root.table_id ≡ l.fn.top.table_id;
  none : l.root.me.1 ≡ [];
  number : l.root.me.0.number ≡ l.fn.root.me.0.number;
  made : l.root.me.0.made ≡ l.fn.root.me.0.made;
  free : l.root.me.0.holds ≡ false;
  front : l.passes.items ≡ take (vec_len l.passes) l.fn.passes.items;
  len : vec_len l.passes ≤ length l.fn.passes.items;
  kept : ((l.root.me.0 ≡ l.fn.root.me.0) × (vec_len l.passes ≡ vec_len l.fn.passes)) ⊎ IsKept l.root.me.0 l.fn.root.me.0;
  others : (k : ℕ) (p : _) → slice_get l.fn.passes.items k ≡ Some p → vec_len l.passes ≤ k → IsKept l.root.me.0 p.knows;
}

abbrev pub decreases-loop-pass : goal.decreases-loop-pass
decreases-loop-pass g l = goal.left-loop-pass g l
