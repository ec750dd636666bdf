use Rattle.std.proofs.Common.{◌≡◌, take}
use Rattle.dbus_types.proofs.copies.+value_copies.Given as goal

-- each value so far is copied
abbrev pub invariant-copy_values-loop-value : goal.invariant-copy_values-loop-value
invariant-copy_values-loop-value l = l.copies ≡ take l.value-index l.values
