use Rattle.std.proofs.Common.{◌≡◌, take}
use Rattle.dbus_types.proofs.copies.+type_copies.Given as goal

abbrev pub invariant-copy_types-loop-kind : goal.invariant-copy_types-loop-kind
invariant-copy_types-loop-kind l = l.copies ≡ take l.kind-index l.kinds
