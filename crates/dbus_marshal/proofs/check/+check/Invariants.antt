use Rattle.std.proofs.Common.{◌≡◌, ℕ, ◌+◌, ◌-◌, ◌*◌, ◌≤◌, drop, length}
use Rattle.dbus_basic.specs.Reading.{past, verdict}
use Rattle.dbus_marshal.specs.Reads.{reads, members, elements}
use Rattle.dbus_marshal.proofs.check.+check.Given as goal

abbrev pub decreases-check_within : goal.decreases-check_within
decreases-check_within l = 3 * l.depth

abbrev pub decreases-check_array : goal.decreases-check_array
decreases-check_array l = 3 * l.depth + 2

abbrev pub decreases-check_struct : goal.decreases-check_struct
decreases-check_struct l = 3 * l.depth + 2

abbrev pub decreases-check_entry : goal.decreases-check_entry
decreases-check_entry l = 3 * l.depth + 2

abbrev pub decreases-check_inside : goal.decreases-check_inside
decreases-check_inside l = 3 * l.depth + 1

abbrev pub decreases-check_elements : goal.decreases-check_elements
decreases-check_elements l = 3 * l.depth + 1

abbrev pub decreases-check_members : goal.decreases-check_members
decreases-check_members l = 3 * l.depth + 1

-- the kinds that are left come to what all come to
abbrev pub invariant-check_members-loop-kind : goal.invariant-check_members-loop-kind
invariant-check_members-loop-kind l = record {
  least : l.at + l.kind-index ≤ l.next;
  within : l.next ≤ length l.bytes;
  rest : past (members (reads l.depth l.endian) l.kinds l.at (drop l.at l.bytes)) ≡ past (members (reads l.depth l.endian) (drop l.kind-index l.kinds) l.next (drop l.next l.bytes));
}

-- the bytes that are left come to what all come to
abbrev pub invariant-check_elements-loop-next : goal.invariant-check_elements-loop-next
invariant-check_elements-loop-next l = record {
  within : l.next ≤ length l.bytes;
  rest : (n : ℕ) × (length (drop l.next l.bytes) ≤ n) × (verdict (elements (length (drop l.at l.bytes)) (reads l.depth l.endian l.element) l.at (drop l.at l.bytes)) ≡ verdict (elements n (reads l.depth l.endian l.element) l.next (drop l.next l.bytes)));
}

abbrev pub decreases-check_elements-loop-next : goal.decreases-check_elements-loop-next
decreases-check_elements-loop-next l = length l.bytes - l.next
