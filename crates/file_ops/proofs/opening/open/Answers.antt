use Rattle.std.proofs.Common.{subst, sym}
use Rattle.node_looks.specs.Done.{DoesAt}
use Rattle.node_looks.specs.Sights.{naming_by, temp_by}
use Rattle.node_looks.specs.declared.served.NodeDone.{NodeDone}
use Rattle.file_ops.proofs.Openings.{open-does}
use Rattle.file_ops.proofs.opening.open.Goals as goal

pub returns-clause-ok : goal.returns-clause-ok
returns-clause-ok g c = λ op.
    subst (λ (d : NodeDone). DoesAt (naming_by c.args.own) (temp_by c.args.own) c.args.book.now c.args.call.now c.args.handles.now (g.T.HostTree.is c.args.tree.now) d c.opened.new.handles (g.T.HostTree.is c.opened.new.tree)) (sym c.done.ensures)
    (open-does (naming_by c.args.own) (temp_by c.args.own) c.args.book.now c.args.call.now c.args.flags c.args.handles.now _ _ _ _ op c.in_ok-tried.ensures.ok)
