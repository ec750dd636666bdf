use Rattle.file_ops.proofs.Tries.{on-err, called-behind}
use Rattle.file_ops.proofs.resized.set_named.Goals as goal

pub returns-in_err-ended-clause-err : goal.returns-in_err-ended-clause-err
returns-in_err-ended-clause-err g c = on-err c.from_residual.result _ (called-behind _ _ _ _ c.in_err-ended.ensures.shown c.look_named-look.ensures.asks c.in_err-ended.ensures.err)
