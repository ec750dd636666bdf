use Rattle.file_ops.proofs.OpenedDirs.{on-err}
use Rattle.file_ops.proofs.Openings.{behind-look, wants-behind}
use Rattle.file_ops.proofs.opening.open_below.Goals as goal

pub returns-in_err-ended-clause-err : goal.returns-in_err-ended-clause-err
returns-in_err-ended-clause-err g c =
    on-err c.from_residual.result _ (wants-behind c.args.handles.now _ _ _ _ _ c.in_err-ended.ensures.shown c.look-look.ensures.asks c.in_err-ended.ensures.err)

pub returns-clause-ok : goal.returns-clause-ok
returns-clause-ok g c = λ view.
    behind-look c.args.below.path.now _ c.look-look.result c.args.call.now.seat c.args.handles.now _ _ c.in_ok-ended.ended _ _
    c.look-look.ensures.asks c.look-look.ensures.looks (c.in_ok-ended.ensures.ok view)
