use Rattle.std.proofs.Common.{◌∙◌, ap}
use Rattle.file_ops.specs.Tries.{tree_done}
use Rattle.file_ops.proofs.Openings.{failed-cut, missing-cut}
use Rattle.file_ops.proofs.Tries.{on-err, wanted-memory}
use Rattle.file_ops.proofs.opening.open_cut.Goals as goal

pub returns-in-NotFile-clause-ok : goal.returns-in-NotFile-clause-ok
returns-in-NotFile-clause-ok g c =
    missing-cut c.args.call.now.request.now c.args.flags c.args.document.now c.args.name c.args.call.now.seat c.args.handles.now c.now-now.result c.set_len.result c.missing.result _ _
    c.requires.cuts (c.in_ok-came_of.ensures.ok ∙ ap tree_done c.in-NotFile.is) c.missing.ensures c.set_len.ensures

pub returns-in-Failed-clause-ok : goal.returns-in-Failed-clause-ok
returns-in-Failed-clause-ok g c =
    failed-cut c.args.call.now.request.now c.args.flags c.args.document.now c.args.name c.args.call.now.seat c.args.handles.now c.now-now.result c.set_len.result c.failed.result _ _
    c.requires.cuts (c.in_ok-came_of.ensures.ok ∙ ap tree_done c.in-Failed.is) c.failed.ensures c.set_len.ensures

pub returns-in_err-came_of-clause-err : goal.returns-in_err-came_of-clause-err
returns-in_err-came_of-clause-err g c =
    on-err c.from_residual.result _
    (record { handles = λ s h. h; calls = wanted-memory _ _ c.set_len.result _ _ c.in_err-came_of.ensures.err c.set_len.ensures })
