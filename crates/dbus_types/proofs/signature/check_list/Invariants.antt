use Rattle.std.proofs.Common.{◌≡◌, ℕ, ◌-◌, ◌≤◌, drop, length}
use Rattle.dbus_types.specs.Reading.{type_at, list_at, whole_at, passed}
use Rattle.dbus_types.proofs.signature.check_list.Given as goal

-- what is left of the types decides of all
abbrev pub invariant-loop-next : goal.invariant-loop-next
invariant-loop-next l = record {
  within : l.next ≤ length l.text;
  rest : (n : ℕ) × (length (drop l.next l.text) ≤ n) × (passed (whole_at 32 32 l.text) ≡ passed (list_at n (type_at 32 32) l.next (drop l.next l.text)));
}

abbrev pub decreases-loop-next : goal.decreases-loop-next
decreases-loop-next l = length l.text - l.next
