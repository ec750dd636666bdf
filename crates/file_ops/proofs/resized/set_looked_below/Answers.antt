use Rattle.std.proofs.Common.{ap, refl, subst, sym, ◌∙◌}
use Rattle.host_tree.specs.declared.tree.LookAnswer.{LookAnswer}
use Rattle.host_tree.specs.declared.tree.LookAnswer.TheVariants as look
use Rattle.portal_model.specs.NodeVerdict.{HandlesStay, by_look, spot}
use Rattle.portal_model.specs.Place.{Exported}
use Rattle.portal_model.specs.SetAttr.{set_attr_of_folder}
use Rattle.file_ops.specs.Sets.{set_subject, sets_of}
use Rattle.file_ops.specs.Tries.{GoesBehind}
use Rattle.file_ops.proofs.resized.set_looked_below.Goals as goal

pub returns-in-Is-Folder-clause-ok : goal.returns-in-Is-Folder-clause-ok
returns-in-Is-Folder-clause-ok g c = λ view d path.
    subst (λ (l : LookAnswer). GoesBehind (by_look view (spot d path c.args.subject.may_write) (λ at. set_subject c.args.request.now (sets_of c.args.setting) c.args.subject c.args.name.now) (set_attr_of_folder c.args.request.now (sets_of c.args.setting))) l
    (g.T.HostTree.is c.args.tree.now) c.set_folder.result HandlesStay (g.T.HostTree.is c.args.tree.now)) (sym (c.in-Is-Folder.is ∙ ap look.Is (rw c.in-Is-Folder.is at c.in-Is-Folder.field-0-is)))
    (c.set_folder.ensures.goes (g.T.HostTree.is c.args.tree.now) (Exported view d path c.args.subject.may_write) refl)
