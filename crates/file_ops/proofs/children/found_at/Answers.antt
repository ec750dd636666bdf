use Rattle.std.proofs.Common.{Bool, subst}
use Rattle.host_tree.specs.Trees.{Asks}
use Rattle.host_tree.specs.declared.tree.TreeCall.TheVariants as TreeCall
use Rattle.file_ops.specs.Children.{shown_below}
use Rattle.file_ops.proofs.Numberings.{numbering-behind}
use Rattle.file_ops.proofs.OneLook.{called-once}
use Rattle.file_ops.proofs.Tries.{on-err}
use Rattle.file_ops.proofs.children.found_at.Goals as goal

pub returns-in_err-ended-clause-err : goal.returns-in_err-ended-clause-err
returns-in_err-ended-clause-err g c =
    on-err c.from_residual.result _ (called-once _ _ (subst (λ (b : Bool). Asks TreeCall.Look (g.T.HostTree.is c.args.tree.now) b (g.T.HostTree.is c.look-look.new.self)) c.in_err-ended.ensures.shown c.look-look.ensures.asks))

pub returns-clause-ok : goal.returns-clause-ok
returns-clause-ok g c = λ table has e.
    numbering-behind c.args.path (λ shown. shown_below c.args.call.now.request.now c.args.parent.now c.args.path shown has) c.look-look.result c.args.call.now.seat table c.args.namings.now c.in_ok-ended.ended table c.found_looked.new.namings _ _ _
    c.look-look.ensures.asks c.look-look.ensures.looks (c.in_ok-ended.ensures.ok table (g.T.HostTree.is c.look-look.new.self) has e)
