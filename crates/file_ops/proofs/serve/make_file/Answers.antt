use Rattle.std.proofs.Common.{◌∙◌, ap, arith, Some}
use Rattle.std.proofs.lemmas.Result.{IfOk-weaker, on_err_weaker}
use Rattle.file_ops.specs.SeatNames.{own_tables}
use Rattle.file_ops.proofs.DoesBelow.{create-does}
use Rattle.file_ops.proofs.DoesNames.{still-named}
use Rattle.file_ops.proofs.DoesSaving.{folder-does, wants-handled}
use Rattle.file_ops.proofs.Savings.{all-ok}
use Rattle.file_ops.proofs.serve.make_file.Goals as goal

pub returns-in_ok-parent-in-Some-Below-clause-ok : goal.returns-in_ok-parent-in-Some-Below-clause-ok
returns-in_ok-parent-in-Some-Below-clause-ok g c = λ op.
    IfOk-weaker c.create_below.result _ _
    (λ done n. create-does c.args.book.now c.args.call.now c.by_number-own.result c.seen_place.result c.in-Some-Below.view c.in-Some-Below.below c.in_ok-parent-in-Some-Below.parent c.args.handles.now (own_tables c.args.namings.now c.args.temps.now) _ done _ _ _
    c.by_number-own.ensures.naming c.by_number-own.ensures.temp c.seen_place.ensures.sight (c.in-Some-Below.is ∙ ap Some c.in-Some-Below.field-0-is) c.in_ok-parent-in-Some-Below.ensures c.args.name.now c.args.flags op n)
    (all-ok _ c.create_below.result c.create_below.ensures.ok)

pub returns-in_ok-parent-in-Some-Below-clause-names_err : goal.returns-in_ok-parent-in-Some-Below-clause-names_err
returns-in_ok-parent-in-Some-Below-clause-names_err g c = on_err_weaker c.create_below.result (still-named _ _ _) c.create_below.ensures.names_err

pub returns-in_ok-folder-in-Some-Folder-clause-ok : goal.returns-in_ok-folder-in-Some-Folder-clause-ok
returns-in_ok-folder-in-Some-Folder-clause-ok g c = λ op.
    IfOk-weaker c.create_in_folder.result _ _
    (λ done n. folder-does c.args.book.now c.args.call.now c.by_number-own.result c.seen_place.result c.args.handles.now (own_tables c.args.namings.now c.args.temps.now) _ done _ _ _
    c.by_number-own.ensures.naming c.by_number-own.ensures.temp c.seen_place.ensures.sight c.args.name.now c.args.flags op
    c.in-Some-Folder.view c.in-Some-Folder.seen c.in_ok-folder-in-Some-Folder.folder (c.in-Some-Folder.is ∙ ap Some c.in-Some-Folder.field-0-is) c.in_ok-folder-in-Some-Folder.ensures n)
    (all-ok _ c.create_in_folder.result c.create_in_folder.ensures.ok)

pub returns-in_ok-folder-in-Some-Folder-clause-err : goal.returns-in_ok-folder-in-Some-Folder-clause-err
returns-in_ok-folder-in-Some-Folder-clause-err g c = wants-handled c.create_in_folder.result 3 c.args.call.now.seat c.args.handles.now _ _ _ (omega arith) c.create_in_folder.ensures.err c.create_in_folder.ensures.handles_err

pub returns-in_ok-folder-in-Some-Folder-clause-plain_err : goal.returns-in_ok-folder-in-Some-Folder-clause-plain_err
returns-in_ok-folder-in-Some-Folder-clause-plain_err g c = λ plain. wants-handled c.create_in_folder.result 2 c.args.call.now.seat c.args.handles.now _ _ _ (omega arith) c.create_in_folder.ensures.err c.create_in_folder.ensures.handles_err

pub returns-in_default-clause-ok : goal.returns-in_default-clause-ok
returns-in_default-clause-ok g c = λ op. c.make_nowhere.ensures.ok c.args.handles.now (own_tables c.args.namings.now c.args.temps.now) c.by_number-own.ensures.naming c.by_number-own.ensures.temp op
