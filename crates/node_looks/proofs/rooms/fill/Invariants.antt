use Rattle.std.proofs.Common.{◌-◌, ◌≤◌, length}
use Rattle.node_looks.specs.Rooms.{AreRooms}
use Rattle.node_looks.proofs.rooms.fill.Given as goal

abbrev pub invariant-fill : goal.invariant-fill
invariant-fill l = record {
  rooms : AreRooms l.lists;
  more : length l.fn.lists ≤ length l.lists;
}

abbrev pub decreases-fill : goal.decreases-fill
decreases-fill l = l.count - length l.lists
