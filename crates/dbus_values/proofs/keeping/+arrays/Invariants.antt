use Rattle.std.proofs.Common.{◌≤◌, map, drop, ◌↔◌}
use Rattle.dbus_types.specs.Types.{greatest, arrays_deep}
use Rattle.dbus_values.specs.Values.{type_of}
use Rattle.dbus_values.proofs.keeping.+arrays.Given as goal

-- those that are left decide of all
abbrev pub invariant-types_arrays_within-loop-value : goal.invariant-types_arrays_within-loop-value
invariant-types_arrays_within-loop-value l = (greatest (map arrays_deep (map type_of (drop l.value-index l.values))) ≤ l.limit) ↔ (greatest (map arrays_deep (map type_of l.values)) ≤ l.limit)
