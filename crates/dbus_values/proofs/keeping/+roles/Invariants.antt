use Rattle.std.proofs.Common.{◌≡◌, map, drop}
use Rattle.dbus_types.specs.Types.{role, members_role}
use Rattle.dbus_values.specs.Values.{type_of}
use Rattle.dbus_values.proofs.keeping.+roles.Given as goal

-- those that are left decide of all
abbrev pub invariant-role_of_types-loop-value : goal.invariant-role_of_types-loop-value
invariant-role_of_types-loop-value l = members_role (map role (map type_of (drop l.value-index l.values))) ≡ members_role (map role (map type_of l.values))
