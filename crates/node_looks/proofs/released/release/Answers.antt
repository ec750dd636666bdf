use Rattle.std.proofs.Common.{sym, subst}
use Rattle.portal_model.specs.declared.request.NodeOp.TheVariants as NodeOp
use Rattle.portal_model.specs.Release.{release}
use Rattle.node_looks.specs.Done.{Does}
use Rattle.node_looks.specs.declared.served.NodeDone.{NodeDone}
use Rattle.node_looks.proofs.DoneLemmas.{as-op, does-by-handle, walk-is}
use Rattle.node_looks.proofs.released.release.Goals as goal

pub returns-clause-done : goal.returns-clause-done
returns-clause-done c = λ op book tree.
    subst (λ (d : NodeDone). Does book c.args.call.now c.args.handles.now tree d c.released.new.handles tree) (sym c.unasked.ensures)
    (does-by-handle book c.args.call.now (release c.args.fh) c.args.fh _ tree _ _ tree (λ s d. walk-is s d c.args.call.now.request.now (NodeOp.Release c.args.fh) op)
    (as-op _ (NodeOp.Release c.args.fh) _ _ _ tree _ _ tree op (c.released.ensures tree)))
