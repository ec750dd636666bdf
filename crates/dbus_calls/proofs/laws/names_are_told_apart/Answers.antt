-- The tables are closed, so the tests compute.
use Rattle.std.proofs.Common.{IsTrue, refl}
use Rattle.std.specs.Prelude.{map}
use Rattle.std.specs.List.{flat_map}
use Rattle.dbus_calls.specs.declared.object.Object.{Object}
use Rattle.dbus_calls.specs.declared.object.Object.TheVariants.{Documents, PermissionStore, Files, Nothing}
use Rattle.dbus_calls.specs.Tables.{interfaces_of, interface_name, methods_of, row, are_apart}
use Rattle.dbus_calls.proofs.laws.names_are_told_apart.Goals as goal

interfaces_apart : (object : Object) → IsTrue (are_apart (map interface_name (interfaces_of object)))
interfaces_apart Documents = refl
interfaces_apart PermissionStore = refl
interfaces_apart Files = refl
interfaces_apart Nothing = refl

members_apart : (object : Object) → IsTrue (are_apart (map (λ method. (row method).member) (flat_map methods_of (interfaces_of object))))
members_apart Documents = refl
members_apart PermissionStore = refl
members_apart Files = refl
members_apart Nothing = refl

pub returns-clause-interfaces : goal.returns-clause-interfaces
returns-clause-interfaces c = interfaces_apart

pub returns-clause-members : goal.returns-clause-members
returns-clause-members c = members_apart
