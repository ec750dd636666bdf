use Rattle.std.proofs.Common.{subst, sym}
use Rattle.std.specs.Result.{IfOk}
use Rattle.host_tree.specs.declared.tree.LookAnswer.{LookAnswer}
use Rattle.file_ops.specs.Children.{shown_below}
use Rattle.file_ops.specs.Creates.{NumberingBehind}
use Rattle.file_ops.proofs.children.found_looked.Goals as goal

pub returns-in-Is-clause-ok : goal.returns-in-Is-clause-ok
returns-in-Is-clause-ok c = λ table tree has e.
    subst (λ (l : LookAnswer). IfOk c.entry.result (λ ended. NumberingBehind (λ shown. shown_below c.args.call.now.request.now c.args.parent.now c.args.path shown has) l c.args.call.now.seat table c.args.namings.now tree ended table c.entry.new.namings tree)) (sym c.in-Is.is)
    (c.entry.ensures.ok table tree has e)
