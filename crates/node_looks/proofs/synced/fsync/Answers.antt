use Rattle.std.proofs.Common.{refl}
use Rattle.portal_model.specs.Fsync.{fsync}
use Rattle.portal_model.specs.declared.request.NodeOp.TheVariants as NodeOp
use Rattle.node_looks.proofs.OpenFiles.{by-handle}
use Rattle.node_looks.proofs.synced.fsync.Goals as goal

pub returns-clause-ok : goal.returns-clause-ok
returns-clause-ok g c = λ op book. by-handle fsync book c.args.call.now c.args.fh c.args.handles.now _ _ c.in_ok-asked.asked c.done.result _ (NodeOp.Fsync c.args.fh) (λ s d. refl) op tt c.done.ensures c.get.ensures.handle
    c.in_ok-asked.ensures.ok
