use Rattle.std.proofs.Common.{◌≤◌, map, drop, ◌↔◌}
use Rattle.dbus_types.specs.Types.{greatest, arrays_deep}
use Rattle.dbus_types.proofs.rules.+arrays.Given as goal

-- those that are left decide of all
abbrev pub invariant-all_arrays_within-loop-kind : goal.invariant-all_arrays_within-loop-kind
invariant-all_arrays_within-loop-kind l = (greatest (map arrays_deep (drop l.kind-index l.kinds)) ≤ l.limit) ↔ (greatest (map arrays_deep l.kinds) ≤ l.limit)
