use Rattle.std.proofs.Common.{◌≡◌, ℕ, ◌+◌, ◌-◌, ◌*◌, ◌≤◌, drop, length}
use Rattle.dbus_marshal.specs.Reads.{reads, members, elements, joined, listed}
use Rattle.dbus_marshal.proofs.read.+read.Given as goal

abbrev pub decreases-read_within : goal.decreases-read_within
decreases-read_within l = 4 * l.depth

abbrev pub decreases-read_array : goal.decreases-read_array
decreases-read_array l = 4 * l.depth + 3

abbrev pub decreases-read_items : goal.decreases-read_items
decreases-read_items l = 4 * l.depth + 2

abbrev pub decreases-read_struct : goal.decreases-read_struct
decreases-read_struct l = 4 * l.depth + 3

abbrev pub decreases-read_entry : goal.decreases-read_entry
decreases-read_entry l = 4 * l.depth + 3

abbrev pub decreases-read_variant : goal.decreases-read_variant
decreases-read_variant l = 4 * l.depth + 3

abbrev pub decreases-read_inside : goal.decreases-read_inside
decreases-read_inside l = 4 * l.depth + 1

abbrev pub decreases-read_elements : goal.decreases-read_elements
decreases-read_elements l = 4 * l.depth + 1

abbrev pub decreases-read_members : goal.decreases-read_members
decreases-read_members l = 4 * l.depth + 1

-- the values so far, and those of the kinds that are left, are those of all
abbrev pub invariant-read_members-loop-kind : goal.invariant-read_members-loop-kind
invariant-read_members-loop-kind l = record {
  least : l.at + l.kind-index ≤ l.next;
  within : l.next ≤ length l.bytes;
  rest : members (reads l.depth l.endian) l.kinds l.at (drop l.at l.bytes) ≡ joined l.values (members (reads l.depth l.endian) (drop l.kind-index l.kinds) l.next (drop l.next l.bytes));
}

-- the values so far, and those of the bytes that are left, are those of all
abbrev pub invariant-read_elements-loop-next : goal.invariant-read_elements-loop-next
invariant-read_elements-loop-next l = record {
  within : l.next ≤ length l.bytes;
  rest : (n : ℕ) × (length (drop l.next l.bytes) ≤ n) × (elements (length (drop l.at l.bytes)) (reads l.depth l.endian l.element) l.at (drop l.at l.bytes) ≡ listed l.items (elements n (reads l.depth l.endian l.element) l.next (drop l.next l.bytes)));
}

abbrev pub decreases-read_elements-loop-next : goal.decreases-read_elements-loop-next
decreases-read_elements-loop-next l = length l.bytes - l.next
