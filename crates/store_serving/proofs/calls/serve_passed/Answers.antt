use Rattle.std.proofs.Common.{refl}
use Rattle.portal_model.specs.declared.store.StoreCall.TheVariants as Call
use Rattle.store_serving.proofs.StoreSteps.{read-follows}
use Rattle.store_serving.proofs.calls.serve_passed.Goals as goal

pub returns-in-Lookup-clause-ok : goal.returns-in-Lookup-clause-ok
returns-in-Lookup-clause-ok g c =
    rw (c.in-Lookup.is) (read-follows (Call.Lookup c.in-Lookup.table c.in-Lookup.id) c.args.tables.now c.args.outboxes.now (g.K.Keeper.is c.args.keeper.now) c.lookup.result c.read.result refl c.lookup.ensures c.read.ensures)

pub returns-in-GetPermission-clause-ok : goal.returns-in-GetPermission-clause-ok
returns-in-GetPermission-clause-ok g c =
    rw (c.in-GetPermission.is) (read-follows (Call.GetPermission c.in-GetPermission.table c.in-GetPermission.id c.in-GetPermission.app) c.args.tables.now c.args.outboxes.now (g.K.Keeper.is c.args.keeper.now)
    c.get_permission.result c.read-in-GetPermission.result refl c.get_permission.ensures c.read-in-GetPermission.ensures)

pub returns-in-List-clause-ok : goal.returns-in-List-clause-ok
returns-in-List-clause-ok g c =
    rw (c.in-List.is) (read-follows (Call.List c.in-List.table) c.args.tables.now c.args.outboxes.now (g.K.Keeper.is c.args.keeper.now) c.list.result c.read-in-List.result refl c.list.ensures c.read-in-List.ensures)

pub returns-in-Delete-clause-ok : goal.returns-in-Delete-clause-ok
returns-in-Delete-clause-ok g c = rw (c.in-Delete.is) c.delete.ensures.ok
