use Rattle.store_serving.proofs.CallArguments.{permission-arguments, set-arguments}
use Rattle.store_serving.proofs.calls.ask.Goals as goal

pub set-requires-clause-table : goal.set-requires-clause-table
set-requires-clause-table c = (set-arguments c.in-Set.table c.in-Set.id c.in-Set.create c.in-Set.rows c.in-Set.datum (rw (c.in-Set.is) at c.requires.arguments)).table_is

pub set-requires-clause-id : goal.set-requires-clause-id
set-requires-clause-id c = (set-arguments c.in-Set.table c.in-Set.id c.in-Set.create c.in-Set.rows c.in-Set.datum (rw (c.in-Set.is) at c.requires.arguments)).id_is

pub set-requires-clause-rows : goal.set-requires-clause-rows
set-requires-clause-rows c = (set-arguments c.in-Set.table c.in-Set.id c.in-Set.create c.in-Set.rows c.in-Set.datum (rw (c.in-Set.is) at c.requires.arguments)).rows_are

pub set_permission-requires-clause-table : goal.set_permission-requires-clause-table
set_permission-requires-clause-table c =
    (permission-arguments c.in-SetPermission.table c.in-SetPermission.id c.in-SetPermission.create c.in-SetPermission.app c.in-SetPermission.names (rw (c.in-SetPermission.is) at c.requires.arguments)).table_is

pub set_permission-requires-clause-id : goal.set_permission-requires-clause-id
set_permission-requires-clause-id c =
    (permission-arguments c.in-SetPermission.table c.in-SetPermission.id c.in-SetPermission.create c.in-SetPermission.app c.in-SetPermission.names (rw (c.in-SetPermission.is) at c.requires.arguments)).id_is

pub set_permission-requires-clause-app : goal.set_permission-requires-clause-app
set_permission-requires-clause-app c =
    (permission-arguments c.in-SetPermission.table c.in-SetPermission.id c.in-SetPermission.create c.in-SetPermission.app c.in-SetPermission.names (rw (c.in-SetPermission.is) at c.requires.arguments)).app_is

pub set_permission-requires-clause-names : goal.set_permission-requires-clause-names
set_permission-requires-clause-names c =
    (permission-arguments c.in-SetPermission.table c.in-SetPermission.id c.in-SetPermission.create c.in-SetPermission.app c.in-SetPermission.names (rw (c.in-SetPermission.is) at c.requires.arguments)).names_are
