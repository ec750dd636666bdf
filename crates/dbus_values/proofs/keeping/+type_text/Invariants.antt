use Rattle.std.proofs.Common.{◌≡◌, ◌+◌, length, map, drop}
use Rattle.dbus_types.specs.Types.{types_text}
use Rattle.dbus_values.specs.Values.{type_of}
use Rattle.dbus_values.proofs.keeping.+type_text.Given as goal

-- what is left of the limit and of the values differs as both did at first
abbrev pub invariant-types_leave-loop-value : goal.invariant-types_leave-loop-value
invariant-types_leave-loop-value l = l.left + length (types_text (map type_of l.values)) ≡ l.limit + length (types_text (map type_of (drop l.value-index l.values)))
