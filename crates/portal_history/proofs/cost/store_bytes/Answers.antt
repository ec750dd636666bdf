use Rattle.std.proofs.Common.{arith}
use Rattle.portal_history.proofs.RowBytes.{permission-counted, set-counted}
use Rattle.portal_history.proofs.cost.store_bytes.Goals as goal

pub returns-in-Set : goal.returns-in-Set
returns-in-Set c = set-counted c.args.call.now _ _ _ _ _ _ c.in-Set.is (omega arith)

pub returns-in-SetPermission : goal.returns-in-SetPermission
returns-in-SetPermission c = permission-counted c.args.call.now _ _ _ _ _ _ c.in-SetPermission.is (omega arith)
