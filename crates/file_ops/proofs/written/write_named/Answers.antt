use Rattle.std.proofs.Common.{refl}
use Rattle.portal_model.specs.Walk.{Changes}
use Rattle.file_ops.proofs.Tries.{along, changed-goes, if-right, on-err, wanted-memory}
use Rattle.file_ops.proofs.written.write_named.Goals as goal

pub returns-clause-ok : goal.returns-clause-ok
returns-clause-ok g c =
    along _ _ _ _ _ _ (if-right _ c.is_past.result _ _ c.is_past.ensures c.if-is_past.false)
    (changed-goes (Changes c.args.name.now) _ _ _ c.now-now.result c.in_ok-came.came c.write.result _ _ _ refl refl c.in_ok-came.ensures.ok c.by_call.ensures c.write.ensures)

pub returns-in_err-came-clause-err : goal.returns-in_err-came-clause-err
returns-in_err-came-clause-err g c = on-err c.from_residual.result _ (wanted-memory _ _ c.write.result _ _ c.in_err-came.ensures.err c.write.ensures)
