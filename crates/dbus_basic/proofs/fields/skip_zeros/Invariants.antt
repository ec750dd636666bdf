use Rattle.std.proofs.Common.{◌≡◌, ◌≤◌, drop, length}
use Rattle.dbus_basic.specs.Fields.{zeros}
use Rattle.dbus_basic.proofs.fields.skip_zeros.Given as goal

-- the zero bytes that are left are those of all
abbrev pub invariant-loop-left : goal.invariant-loop-left
invariant-loop-left l = record {
  begins : l.at ≤ l.next;
  within : l.next ≤ length l.bytes;
  rest : zeros l.count l.at (drop l.at l.bytes) ≡ zeros l.left l.next (drop l.next l.bytes);
}

abbrev pub decreases-loop-left : goal.decreases-loop-left
decreases-loop-left l = l.left
