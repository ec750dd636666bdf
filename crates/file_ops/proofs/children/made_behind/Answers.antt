use Rattle.std.proofs.Common.{Some, ap, refl, subst, sym, ◌∙◌}
use Rattle.host_tree.specs.declared.tree.LookAnswer.{LookAnswer}
use Rattle.host_tree.specs.declared.tree.LookAnswer.TheVariants as look
use Rattle.portal_base.specs.Names.{named_child}
use Rattle.portal_base.specs.declared.files.Look.TheVariants as Look
use Rattle.node_looks.specs.Done.{room_in}
use Rattle.file_ops.specs.Children.{NumberingBelow, made_below}
use Rattle.file_ops.proofs.children.made_behind.Goals as goal

pub returns-in_ok-made_in-in-Is-Folder-clause-ok : goal.returns-in_ok-made_in-in-Is-Folder-clause-ok
returns-in_ok-made_in-in-Is-Folder-clause-ok g c =
    subst (λ (l : LookAnswer). NumberingBelow (made_below c.args.call.now.request.now c.args.flags (room_in c.args.handles.now c.args.call.now.seat) c.args.parent.now (named_child c.args.parent.now.path c.args.name.now)) l c.args.call.now.seat c.args.handles.now c.args.namings.now
    (g.T.HostTree.is c.args.tree.now) (record { first = Some Look.Folder; then = c.in_ok-made_in-in-Is-Folder.field-0 }) c.made_in.new.handles c.made_in.new.namings (g.T.HostTree.is c.made_in.new.tree)) (sym (c.in-Is-Folder.is ∙ ap look.Is (rw c.in-Is-Folder.is at c.in-Is-Folder.field-0-is)))
    (refl, c.in_ok-made_in-in-Is-Folder.ensures.ok)
