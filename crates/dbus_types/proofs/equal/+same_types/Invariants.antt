use Rattle.std.proofs.Common.{◌≡◌, take}
use Rattle.dbus_types.proofs.equal.+same_types.Given as goal

abbrev pub invariant-same_members-loop-index : goal.invariant-same_members-loop-index
invariant-same_members-loop-index l = take l.index l.a ≡ take l.index l.b
