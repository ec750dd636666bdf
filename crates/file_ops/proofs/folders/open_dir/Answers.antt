use Rattle.std.proofs.Common.{◌∙◌, sym}
use Rattle.node_looks.specs.Sights.{naming_by, temp_by}
use Rattle.std.proofs.lemmas.Result.{IfOk-weaker}
use Rattle.file_ops.proofs.OpenedDirs.{open-dir-does, placed-dir}
use Rattle.file_ops.proofs.LowKinds.{low-is-folder}
use Rattle.file_ops.proofs.folders.open_dir.Goals as goal

pub returns-in-Some-clause-ok : goal.returns-in-Some-clause-ok
returns-in-Some-clause-ok g c = λ has e op.
    IfOk-weaker c.at_place.result _ _
    (λ done h. open-dir-does (naming_by c.args.own) (temp_by c.args.own) has.temps c.args.book.now c.args.call.now c.args.handles.now _ done _ _ op
    (placed-dir (naming_by c.args.own) (temp_by c.args.own) has.temps c.args.call.now c.in-Some.place c.args.book.now.view c.args.handles.now _ done _ _ (sym c.in-Some.is ∙ c.place_of.ensures.place) h))
    (c.at_place.ensures.ok has e)

pub returns-in-Some-clause-plain_err : goal.returns-in-Some-clause-plain_err
returns-in-Some-clause-plain_err g c = λ plain.
    c.at_place.ensures.plain_err (low-is-folder c.args.call.now.request.now.node c.in-Some.place (sym c.in-Some.is ∙ c.place_of.ensures.place) plain)
