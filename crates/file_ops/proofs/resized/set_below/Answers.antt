use Rattle.portal_model.specs.NodeVerdict.{spot}
use Rattle.portal_model.specs.Walk.{AtPath}
use Rattle.file_ops.proofs.Sets.{below-behind}
use Rattle.file_ops.proofs.Tries.{behind-goes, called-behind, on-err, shows-path}
use Rattle.file_ops.proofs.resized.set_below.Goals as goal

pub returns-in_err-ended-clause-err : goal.returns-in_err-ended-clause-err
returns-in_err-ended-clause-err g c = on-err c.from_residual-in_err-ended.result _ (called-behind _ _ _ _ c.in_err-ended.ensures.shown c.look-look.ensures.asks c.in_err-ended.ensures.err)

pub returns-clause-ok : goal.returns-clause-ok
returns-clause-ok g c = λ view.
    behind-goes (AtPath c.args.below.path.now) _ c.look-look.result c.in_ok-ended.ended _ _ _ _ c.look-look.ensures.asks (shows-path _ c.args.below.path.now c.look-look.result c.look-look.ensures.looks)
    (below-behind c.args.request.now _ view (spot c.args.below.seen.document.now c.args.below.path.now c.args.below.seen.may_write) c.in_ok-path_copy.path_copy c.look-look.result c.generation_of.result _ c.in_ok-ended.ended _ _
    c.in_ok-path_copy.ensures c.generation_of.ensures (c.in_ok-ended.ensures.ok view c.args.below.seen.document.now c.args.below.path.now))
