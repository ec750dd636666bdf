use Rattle.std.proofs.Common.{◌∙◌}
use Rattle.std.proofs.lemmas.Result.{IfOk-weaker}
use Rattle.file_ops.specs.Tries.{done_of_tried}
use Rattle.file_ops.proofs.Tries.{if-right, picked, walk-goes}
use Rattle.file_ops.proofs.resized.set.Goals as goal

pub returns-then-sets_by_handle-clause-ok : goal.returns-then-sets_by_handle-clause-ok
returns-then-sets_by_handle-clause-ok g c =
    IfOk-weaker c.set_open.result _ _
    (λ tried h s l. walk-goes _ _ _ (done_of_tried tried) _ _
    (if-right _ c.sets_owner_or_mode.result _ _ c.sets_owner_or_mode.ensures c.if-sets_owner_or_mode.false
    ∙ picked _ c.sets_by_handle.result _ _ c.sets_by_handle.ensures c.if-sets_by_handle.true) (h s l)) c.set_open.ensures.ok
