use Rattle.portal_model.specs.Walk.{Named}
use Rattle.file_ops.proofs.OpenedDirs.{on-err}
use Rattle.file_ops.proofs.Openings.{behind-target, wants-behind}
use Rattle.file_ops.proofs.opening.open_temp.Goals as goal

pub returns-in_err-ended-clause-err : goal.returns-in_err-ended-clause-err
returns-in_err-ended-clause-err g c =
    on-err c.from_residual.result _ (wants-behind c.args.handles.now _ _ _ _ _ c.in_err-ended.ensures.shown c.look_named-look.ensures.asks c.in_err-ended.ensures.err)

pub returns-clause-ok : goal.returns-clause-ok
returns-clause-ok g c =
    behind-target (Named c.args.temp.file.now) _ c.look_named-look.result c.args.call.now.seat c.args.handles.now _ _ c.in_ok-ended.ended _ _
    c.look_named-look.ensures.asks c.look_named-look.ensures.shows c.in_ok-ended.ensures.ok
