use Rattle.std.proofs.Common.{◌≡◌, ℕ, ◌+◌, ◌-◌, ◌*◌, ◌≤◌, ◌<◌, drop, length}
use Rattle.dbus_types.specs.Reading.{type_at, more_at, members_at, placed}
use Rattle.dbus_types.proofs.signature.+check.Given as goal

abbrev pub decreases-check_type : goal.decreases-check_type
decreases-check_type l = 2 * (l.arrays + l.brackets)

abbrev pub decreases-check_element : goal.decreases-check_element
decreases-check_element l = 2 * (l.arrays + l.brackets) + 1

abbrev pub decreases-check_members : goal.decreases-check_members
decreases-check_members l = 2 * (l.arrays + l.brackets) + 1

-- what is left of the members decides of all
abbrev pub invariant-check_members-loop-next : goal.invariant-check_members-loop-next
invariant-check_members-loop-next l = record {
  from : l.at < l.next;
  within : l.next ≤ length l.text;
  rest : (n : ℕ) × (length (drop l.next l.text) ≤ n) × (placed (members_at (type_at l.arrays l.brackets) l.at (drop l.at l.text)) ≡ placed (more_at n (type_at l.arrays l.brackets) l.next (drop l.next l.text)));
}

abbrev pub decreases-check_members-loop-next : goal.decreases-check_members-loop-next
decreases-check_members-loop-next l = length l.text - l.next
