use Rattle.std.proofs.Common.{◌≡◌, ℕ, ◌-◌, ◌≤◌, drop, length}
use Rattle.dbus_marshal.specs.Reads.{elements, listed, sifted, field_at}
use Rattle.dbus_marshal.proofs.header.read_fields.Given as goal

-- the fields so far, and those of the bytes that are left, are those of all
abbrev pub invariant-loop-next : goal.invariant-loop-next
invariant-loop-next l = record {
  within : l.next ≤ length l.bytes;
  rest : (n : ℕ) × (length (drop l.next l.bytes) ≤ n) × (sifted l.highest (elements (length (drop l.at l.bytes)) (field_at l.endian) l.at (drop l.at l.bytes)) ≡ listed l.fields (sifted l.highest (elements n (field_at l.endian) l.next (drop l.next l.bytes))));
}

abbrev pub decreases-loop-next : goal.decreases-loop-next
decreases-loop-next l = length l.bytes - l.next
