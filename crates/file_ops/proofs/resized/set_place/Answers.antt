use Rattle.std.proofs.Common.{Some, refl, subst, sym}
use Rattle.std.proofs.lemmas.Result.{IfOk-weaker}
use Rattle.portal_model.specs.NodeVerdict.{HandlesStay, by_place}
use Rattle.portal_model.specs.SetAttr.{set_attr_at, set_attr_of_folder}
use Rattle.node_looks.specs.Sights.{sight_of}
use Rattle.node_looks.specs.declared.sight.SeenPlace.{SeenPlace}
use Rattle.file_ops.specs.Sets.{sets_of}
use Rattle.file_ops.specs.Tries.{Goes, done_of_tried}
use Rattle.file_ops.proofs.Tries.{folder-goes}
use Rattle.file_ops.proofs.resized.set_place.Goals as goal

pub returns-in-Folder-clause-ok : goal.returns-in-Folder-clause-ok
returns-in-Folder-clause-ok g c = folder-goes c.args.place _ c.args.book.now c.args.who.now _ _ _ _ c.in-Folder.is _ refl refl (c.set_plain.ensures.goes _)

pub returns-in-Root-clause-ok : goal.returns-in-Root-clause-ok
returns-in-Root-clause-ok g c = folder-goes c.args.place _ c.args.book.now c.args.who.now _ _ _ _ c.in-Root.is _ refl refl (c.set_plain-in-Root.ensures.goes _)

pub returns-in-Views-clause-ok : goal.returns-in-Views-clause-ok
returns-in-Views-clause-ok g c = folder-goes c.args.place _ c.args.book.now c.args.who.now _ _ _ _ c.in-Views.is _ refl refl (c.set_plain-in-Views.ensures.goes _)

pub returns-in-Below-clause-ok : goal.returns-in-Below-clause-ok
returns-in-Below-clause-ok g c =
    IfOk-weaker c.set_below.result _ _
    (λ tried h. subst (λ (p : SeenPlace). Goes (by_place (Some (sight_of c.args.book.now c.args.who.now p)) (set_attr_at c.args.request.now (sets_of c.args.setting)) (set_attr_of_folder c.args.request.now (sets_of c.args.setting))) (g.T.HostTree.is c.args.tree.now)
    (done_of_tried tried) HandlesStay (g.T.HostTree.is c.set_below.new.tree)) (sym c.in-Below.is) h) (c.set_below.ensures.ok c.in-Below.view)
