use Rattle.portal_model.specs.Walk.{Named}
use Rattle.file_ops.proofs.Sets.{temp-behind}
use Rattle.file_ops.proofs.Tries.{behind-goes, called-behind, on-err}
use Rattle.file_ops.proofs.resized.set_temp.Goals as goal

pub returns-in_err-ended-clause-err : goal.returns-in_err-ended-clause-err
returns-in_err-ended-clause-err g c = on-err c.from_residual.result _ (called-behind _ _ _ _ c.in_err-ended.ensures.shown c.look_named-look.ensures.asks c.in_err-ended.ensures.err)

pub returns-clause-ok : goal.returns-clause-ok
returns-clause-ok g c =
    behind-goes (Named c.args.temp.file.now) _ c.look_named-look.result c.in_ok-ended.ended _ _ _ _ c.look_named-look.ensures.asks c.look_named-look.ensures.shows
    (temp-behind c.args.request.now _ c.args.temp.seen.document.now c.args.temp.file.now c.args.temp.seen.may_write c.look_named-look.result _ c.in_ok-ended.ended _ _
    c.look_named-look.ensures.generation c.in_ok-ended.ensures.ok)
