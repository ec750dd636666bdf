use Rattle.std.proofs.Common.{◌∙◌, ap}
use Rattle.file_ops.specs.Tries.{tree_done}
use Rattle.file_ops.specs.Creates.{own_file}
use Rattle.file_ops.proofs.Creates.{made-failed, made-missing}
use Rattle.file_ops.proofs.Tries.{on-err, wanted-memory}
use Rattle.file_ops.proofs.created.make_file.Goals as goal

pub returns-in-NotFile-clause-ok : goal.returns-in-NotFile-clause-ok
returns-in-NotFile-clause-ok g c =
    made-missing c.args.call.now.request.now c.args.flags c.args.handles.now c.args.call.now.seat (own_file c.args.folder.now) c.args.file c.now-now.result _ _ c.create.result c.requires.first c.requires.missing c.create.ensures c.missing.result
    (c.in_ok-came.ensures.ok ∙ ap tree_done c.in-NotFile.is) c.missing.ensures

pub returns-in-Failed-clause-ok : goal.returns-in-Failed-clause-ok
returns-in-Failed-clause-ok g c =
    made-failed c.args.call.now.request.now c.args.flags c.args.handles.now c.args.call.now.seat (own_file c.args.folder.now) c.args.file c.now-now.result _ _ c.create.result c.requires.first c.requires.missing c.create.ensures c.failed.result
    (c.in_ok-came.ensures.ok ∙ ap tree_done c.in-Failed.is) c.failed.ensures

pub returns-in_err-came-clause-err : goal.returns-in_err-came-clause-err
returns-in_err-came-clause-err g c = on-err c.from_residual.result _ (wanted-memory _ _ c.create.result _ _ c.in_err-came.ensures.err c.create.ensures)
