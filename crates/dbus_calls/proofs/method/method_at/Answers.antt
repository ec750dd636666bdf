-- The object's own interface comes first, then those that each object has.
use Rattle.dbus_calls.specs.declared.interface.Interface.TheVariants.{Documents, PermissionStore, Files}
use Rattle.dbus_calls.proofs.Methods.{own_or_shared}
use Rattle.dbus_calls.proofs.method.method_at.Goals as goal

pub returns-in-Documents : goal.returns-in-Documents
returns-in-Documents c =
    rw c.in-Documents.is (own_or_shared Documents c.args.member.now c.documents_method.ensures c.shared_method.ensures c.or.ensures)

pub returns-in-PermissionStore : goal.returns-in-PermissionStore
returns-in-PermissionStore c =
    rw c.in-PermissionStore.is
    (own_or_shared PermissionStore c.args.member.now c.store_method.ensures c.shared_method-in-PermissionStore.ensures c.or-in-PermissionStore.ensures)

pub returns-in-Files : goal.returns-in-Files
returns-in-Files c =
    rw c.in-Files.is (own_or_shared Files c.args.member.now c.files_method.ensures c.shared_method-in-Files.ensures c.or-in-Files.ensures)
