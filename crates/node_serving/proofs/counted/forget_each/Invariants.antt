use Rattle.std.proofs.Common.{◌≤◌, List, ℕ, drop}
use Rattle.inode_table.specs.declared.inodes.SeatNode.{SeatNode}
use Rattle.node_serving.specs.Counted.{AreForgotten}
use Rattle.node_serving.proofs.counted.forget_each.Given as goal

-- what the items that are left take back is what all of them take back from the counts at first
abbrev pub invariant-loop-item : goal.invariant-loop-item
invariant-loop-item l = record {
  left : (new : List (SeatNode × ℕ)) → AreForgotten l.seat (drop l.item-index l.items) l.counts.counts new → AreForgotten l.seat l.items l.fn.counts.counts new;
  room : l.fn.counts.room ≤ l.counts.room;
}
