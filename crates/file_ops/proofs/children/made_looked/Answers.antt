use Rattle.std.proofs.Common.{ap, subst, sym, ◌∙◌}
use Rattle.std.specs.Result.{IfOk}
use Rattle.host_tree.specs.declared.tree.LookAnswer.{LookAnswer}
use Rattle.host_tree.specs.declared.tree.LookAnswer.TheVariants as look
use Rattle.node_looks.specs.Done.{room_in}
use Rattle.file_ops.specs.Children.{there_below}
use Rattle.file_ops.specs.Creates.{NumberingBehind}
use Rattle.file_ops.proofs.children.made_looked.Goals as goal

pub returns-in-Is-Missing-clause-ok : goal.returns-in-Is-Missing-clause-ok
returns-in-Is-Missing-clause-ok g c = λ has e.
    subst (λ (l : LookAnswer). IfOk c.made_file.result (λ ended. NumberingBehind (λ shown. there_below c.args.call.now.request.now c.args.flags (room_in c.args.handles.now c.args.call.now.seat) c.args.parent.now c.args.naming shown has) l c.args.call.now.seat c.args.handles.now c.args.namings.now
    (g.T.HostTree.is c.args.tree.now) ended c.made_file.new.handles c.made_file.new.namings (g.T.HostTree.is c.made_file.new.tree))) (sym (c.in-Is-Missing.is ∙ ap look.Is (rw c.in-Is-Missing.is at c.in-Is-Missing.field-0-is)))
    (c.made_file.ensures.ok has e)
