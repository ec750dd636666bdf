use Rattle.file_ops.specs.Creates.{own_file}
use Rattle.node_looks.specs.Done.{room_in}
use Rattle.file_ops.proofs.Creates.{made-behind}
use Rattle.file_ops.proofs.Tries.{called-behind, on-err}
use Rattle.file_ops.proofs.created.make_new.Goals as goal

pub returns-in_err-ended-clause-err : goal.returns-in_err-ended-clause-err
returns-in_err-ended-clause-err g c = on-err c.from_residual-in_err-ended.result _ (called-behind _ _ _ _ c.in_err-ended.ensures.shown c.look-look.ensures.asks c.in_err-ended.ensures.err)

pub returns-clause-ok : goal.returns-clause-ok
returns-clause-ok g c =
    made-behind c.args.call.now.request.now c.args.flags (room_in c.args.handles.now c.args.call.now.seat) (own_file c.args.folder.now) c.look-look.result c.args.call.now.seat c.args.handles.now c.in_ok-ended.ended _ _ _ _
    c.look-look.ensures.asks c.look-look.ensures.looks c.in_ok-ended.ensures.ok
