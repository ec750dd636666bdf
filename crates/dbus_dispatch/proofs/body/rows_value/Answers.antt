use Rattle.std.proofs.Common.{List, subst, arith}
use Rattle.std.specs.Prelude.{All}
use Rattle.std.proofs.lemmas.List.{take_all}
use Rattle.std.proofs.lemmas.List.Elements.{All-more}
use Rattle.portal_model.specs.declared.records.Row.{Row}
use Rattle.portal_model.specs.Changed.{row_value}
use Rattle.dbus_dispatch.specs.Writable.{IsRowInUtf8}
use Rattle.dbus_dispatch.proofs.Walked.{more_mapped}
use Rattle.dbus_dispatch.proofs.body.rows_value.Goals as goal

pub loop-row-preserved : goal.loop-row-preserved
loop-row-preserved c =
    let l = c.loop-row in
    let rows : List Row = c.args.rows.now in
    let row : Row = c.row-item.result in
    let made = c.in_ok-row_value in record {
      told = more_mapped row_value rows l.row-index row l.items c.push.new.self made.field-0 (omega arith) c.row-item.is l.invariant.told made.ensures.told c.in_ok-push.ensures.ok;
      utf8 = All-more IsRowInUtf8 rows l.row-index row (omega arith) l.invariant.utf8 (subst IsRowInUtf8 c.row-item.is made.ensures.utf8);
    }

pub returns-clause-utf8 : goal.returns-clause-utf8
returns-clause-utf8 c = subst (All IsRowInUtf8) (take_all c.loop-row.row-index c.args.rows.now (omega arith)) c.loop-row.invariant.utf8
