use Rattle.std.proofs.Common.{refl}
use Rattle.portal_model.specs.ReadDir.{read_dir}
use Rattle.portal_model.specs.declared.request.NodeOp.TheVariants as NodeOp
use Rattle.node_looks.proofs.OpenFiles.{by-handle, comes-follows}
use Rattle.node_looks.proofs.listed.read_dir.Goals as goal

pub returns-clause-done : goal.returns-clause-done
returns-clause-done c = λ op book tree. by-handle (read_dir c.args.offset c.args.size) book c.args.call.now c.args.fh c.args.handles.now _ tree _ c.unasked.result tree (NodeOp.ReadDir c.args.fh c.args.offset c.args.size) (λ s d. refl) op tt c.unasked.ensures c.get.ensures.handle
    (comes-follows _ c.in_ok-answer.answer tree c.in_ok-answer.ensures)
