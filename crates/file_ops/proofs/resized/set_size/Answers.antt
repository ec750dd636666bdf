use Rattle.std.proofs.Common.{◌∙◌, ap, refl, sym}
use Rattle.portal_model.specs.declared.reply.Attr.{Attr}
use Rattle.portal_model.specs.declared.reply.NodeAnswer.TheVariants as NodeAnswer
use Rattle.portal_model.specs.NodeVerdict.{Resizes, changes}
use Rattle.portal_model.specs.Walk.{Changes}
use Rattle.file_ops.proofs.Tries.{along, changed-goes, if-may, if-within, on-err, wanted-memory}
use Rattle.file_ops.proofs.resized.set_size.Goals as goal

pub returns-clause-ok : goal.returns-clause-ok
returns-clause-ok g c =
    along _ _ _ _ _ _ (if-may c.args.subject.may_write _ _ c.if-not-subject.false ∙ if-within c.args.setting.limit c.args.setting.size _ _ c.if-setting.false)
    (changed-goes (Changes c.args.name.now) _ _ _ c.now-now.result c.in_ok-came.came c.set_len.result _ _ _ refl
    (ap (λ (a : Attr). changes (Resizes c.args.name.now c.args.setting.size c.now-now.result) (NodeAnswer.Attr a)) (sym c.attr_of_file-attr.ensures))
    c.in_ok-came.ensures.ok c.by_call.ensures c.set_len.ensures)

pub returns-in_err-came-clause-err : goal.returns-in_err-came-clause-err
returns-in_err-came-clause-err g c = on-err c.from_residual.result _ (wanted-memory _ _ c.set_len.result _ _ c.in_err-came.ensures.err c.set_len.ensures)
