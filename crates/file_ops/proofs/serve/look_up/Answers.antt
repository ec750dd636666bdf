use Rattle.std.proofs.Common.{◌∙◌, ap, refl, Some}
use Rattle.std.proofs.lemmas.Result.{IfOk-weaker, on_err_weaker}
use Rattle.file_ops.specs.SeatNames.{own_tables}
use Rattle.file_ops.proofs.DoesBelow.{lookup-does}
use Rattle.file_ops.proofs.DoesNames.{still-named}
use Rattle.file_ops.proofs.Savings.{all-ok}
use Rattle.file_ops.proofs.serve.look_up.Goals as goal

pub returns-in_ok-parent-in-Some-Below-clause-ok : goal.returns-in_ok-parent-in-Some-Below-clause-ok
returns-in_ok-parent-in-Some-Below-clause-ok g c = λ table op.
    IfOk-weaker c.lookup_below.result _ _
    (λ done n. lookup-does c.args.book.now c.args.call.now c.by_number-own.result c.seen_place.result c.in-Some-Below.view c.in-Some-Below.below c.in_ok-parent-in-Some-Below.parent table (own_tables c.args.namings.now c.args.temps.now) _ done table _ _
    c.by_number-own.ensures.naming c.by_number-own.ensures.temp c.seen_place.ensures.sight (c.in-Some-Below.is ∙ ap Some c.in-Some-Below.field-0-is) c.in_ok-parent-in-Some-Below.ensures c.args.name.now op n)
    (all-ok _ c.lookup_below.result (c.lookup_below.ensures.ok table))

pub returns-in_ok-parent-in-Some-Below-clause-names_err : goal.returns-in_ok-parent-in-Some-Below-clause-names_err
returns-in_ok-parent-in-Some-Below-clause-names_err g c = on_err_weaker c.lookup_below.result (still-named _ _ _) c.lookup_below.ensures.names_err

pub returns-in_default-clause-ok : goal.returns-in_default-clause-ok
returns-in_default-clause-ok g c = λ table op. c.look_up_plain.ensures.ok table (own_tables c.args.namings.now c.args.temps.now) refl c.by_number-own.ensures.naming c.by_number-own.ensures.temp op
