use Rattle.std.proofs.Common.{◌≡◌, map, drop}
use Rattle.dbus_types.specs.Types.{role, members_role}
use Rattle.dbus_types.proofs.rules.+roles.Given as goal

-- those that are left decide of all
abbrev pub invariant-role_of_members-loop-kind : goal.invariant-role_of_members-loop-kind
invariant-role_of_members-loop-kind l = members_role (map role (drop l.kind-index l.kinds)) ≡ members_role (map role l.kinds)
