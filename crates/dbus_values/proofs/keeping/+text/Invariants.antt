use Rattle.std.proofs.Common.{◌≡◌, ◌+◌, length, drop}
use Rattle.dbus_types.specs.Types.{types_text}
use Rattle.dbus_values.proofs.keeping.+text.Given as goal

-- what is left of the limit and of the types differs as both did at first
abbrev pub invariant-texts_leave-loop-kind : goal.invariant-texts_leave-loop-kind
invariant-texts_leave-loop-kind l = l.left + length (types_text l.kinds) ≡ l.limit + length (types_text (drop l.kind-index l.kinds))
