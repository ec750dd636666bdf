use Rattle.std.proofs.Common.{◌≡◌, ℕ, ◌+◌, ◌-◌, ◌*◌, ◌≤◌, ◌<◌, drop, length}
use Rattle.dbus_types.specs.Reading.{type_at, more_at, members_at}
use Rattle.dbus_types.proofs.ReadingSteps.{onto}
use Rattle.dbus_types.proofs.signature.+read.Given as goal

abbrev pub decreases-read_type : goal.decreases-read_type
decreases-read_type l = 2 * (l.arrays + l.brackets)

abbrev pub decreases-read_element : goal.decreases-read_element
decreases-read_element l = 2 * (l.arrays + l.brackets) + 1

abbrev pub decreases-read_members : goal.decreases-read_members
decreases-read_members l = 2 * (l.arrays + l.brackets) + 1

-- the types so far, and those that are left, are those of all
abbrev pub invariant-read_members-loop-next : goal.invariant-read_members-loop-next
invariant-read_members-loop-next l = record {
  from : l.at < l.next;
  within : l.next ≤ length l.text;
  rest : (n : ℕ) × (length (drop l.next l.text) ≤ n) × (members_at (type_at l.arrays l.brackets) l.at (drop l.at l.text) ≡ onto l.members (more_at n (type_at l.arrays l.brackets) l.next (drop l.next l.text)));
}

abbrev pub decreases-read_members-loop-next : goal.decreases-read_members-loop-next
decreases-read_members-loop-next l = length l.text - l.next
