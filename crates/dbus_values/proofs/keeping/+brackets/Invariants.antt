use Rattle.std.proofs.Common.{◌≤◌, map, drop, ◌↔◌}
use Rattle.dbus_types.specs.Types.{greatest, brackets_deep}
use Rattle.dbus_values.specs.Values.{type_of}
use Rattle.dbus_values.proofs.keeping.+brackets.Given as goal

-- those that are left decide of all
abbrev pub invariant-types_brackets_within-loop-value : goal.invariant-types_brackets_within-loop-value
invariant-types_brackets_within-loop-value l = (greatest (map brackets_deep (map type_of (drop l.value-index l.values))) ≤ l.limit) ↔ (greatest (map brackets_deep (map type_of l.values)) ≤ l.limit)
