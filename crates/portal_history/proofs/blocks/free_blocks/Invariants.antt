use Rattle.std.proofs.Common.{◌≡◌, ◌-◌, ◌≤◌, vec_len, vec_capacity}
use Rattle.portal_history.specs.Blocks.{AreFree}
use Rattle.portal_history.proofs.blocks.free_blocks.Given as goal

abbrev pub invariant-loop-alloc : goal.invariant-loop-alloc
invariant-loop-alloc l = record {
  capacity : vec_capacity l.blocks ≡ l.count;
  few : vec_len l.blocks ≤ l.count;
  free : AreFree l.blocks.items;
}

abbrev pub decreases-loop-alloc : goal.decreases-loop-alloc
decreases-loop-alloc l = l.count - vec_len l.blocks
