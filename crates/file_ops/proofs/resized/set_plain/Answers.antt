use Rattle.std.proofs.Common.{subst, sym}
use Rattle.portal_model.specs.NodeVerdict.{HandlesStay}
use Rattle.portal_model.specs.SetAttr.{set_attr_of_folder}
use Rattle.file_ops.specs.Sets.{sets_of}
use Rattle.file_ops.specs.Tries.{Goes, done_of_tried}
use Rattle.file_ops.specs.declared.tried.Tried.{Tried}
use Rattle.file_ops.proofs.resized.set_plain.Goals as goal

pub returns-clause-goes : goal.returns-clause-goes
returns-clause-goes c = λ tree folder w.
    subst (λ (t : Tried). Goes (set_attr_of_folder c.args.request.now (sets_of c.args.setting) folder) tree (done_of_tried t) HandlesStay tree) (sym c.unlooked.ensures) (c.set_folder.ensures.goes tree folder w)
