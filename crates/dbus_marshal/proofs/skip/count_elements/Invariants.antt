use Rattle.std.proofs.Common.{◌-◌, ◌≤◌, length}
use Rattle.dbus_marshal.proofs.skip.count_elements.Given as goal

abbrev pub invariant-loop-next : goal.invariant-loop-next
invariant-loop-next l = record {
  few : l.count ≤ l.next;
  within : l.next ≤ length l.bytes;
}

abbrev pub decreases-loop-next : goal.decreases-loop-next
decreases-loop-next l = length l.bytes - l.next
