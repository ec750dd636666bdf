use Rattle.std.proofs.Common.{◌≤◌, map, drop, ◌↔◌}
use Rattle.dbus_types.specs.Types.{greatest, brackets_deep}
use Rattle.dbus_types.proofs.rules.+brackets.Given as goal

-- those that are left decide of all
abbrev pub invariant-all_brackets_within-loop-kind : goal.invariant-all_brackets_within-loop-kind
invariant-all_brackets_within-loop-kind l = (greatest (map brackets_deep (drop l.kind-index l.kinds)) ≤ l.limit) ↔ (greatest (map brackets_deep l.kinds) ≤ l.limit)
