use Rattle.std.proofs.Common.{◌≡◌, ℕ, ◌-◌, ◌≤◌, drop, length}
use Rattle.dbus_types.specs.Reading.{type_at, list_at, whole_at}
use Rattle.dbus_types.proofs.ReadingSteps.{behind}
use Rattle.dbus_types.proofs.signature.read_list.Given as goal

-- the types so far, and those that are left, are those of all
abbrev pub invariant-loop-next : goal.invariant-loop-next
invariant-loop-next l = record {
  within : l.next ≤ length l.text;
  rest : (n : ℕ) × (length (drop l.next l.text) ≤ n) × (whole_at 32 32 l.text ≡ behind l.kinds (list_at n (type_at 32 32) l.next (drop l.next l.text)));
}

abbrev pub decreases-loop-next : goal.decreases-loop-next
decreases-loop-next l = length l.text - l.next
