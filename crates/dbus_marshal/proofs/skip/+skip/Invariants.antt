use Rattle.std.proofs.Common.{◌+◌, ◌*◌, ◌≤◌, length}
use Rattle.dbus_marshal.proofs.skip.+skip.Given as goal

abbrev pub decreases-skip_value : goal.decreases-skip_value
decreases-skip_value l = 2 * l.depth

abbrev pub decreases-skip_members : goal.decreases-skip_members
decreases-skip_members l = 2 * l.depth + 1

abbrev pub decreases-skip_entry : goal.decreases-skip_entry
decreases-skip_entry l = 2 * l.depth + 1

abbrev pub decreases-skip_variant : goal.decreases-skip_variant
decreases-skip_variant l = 2 * l.depth + 1

abbrev pub invariant-skip_members-loop-kind : goal.invariant-skip_members-loop-kind
invariant-skip_members-loop-kind l = record {
  least : l.at + l.kind-index ≤ l.next;
  within : l.next ≤ length l.bytes;
}
