use Rattle.std.proofs.Common.{refl}
use Rattle.portal_model.specs.Flush.{flush}
use Rattle.portal_model.specs.declared.request.NodeOp.TheVariants as NodeOp
use Rattle.node_looks.proofs.OpenFiles.{by-handle, comes-follows}
use Rattle.node_looks.proofs.synced.flush.Goals as goal

pub returns-clause-done : goal.returns-clause-done
returns-clause-done c = λ op book tree. by-handle flush book c.args.call.now c.args.fh c.args.handles.now _ tree _ c.unasked.result tree (NodeOp.Flush c.args.fh) (λ s d. refl) op tt c.unasked.ensures c.get.ensures.handle
    (comes-follows _ c.flushed.result tree c.flushed.ensures)
