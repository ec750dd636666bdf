use Rattle.std.proofs.Common.{◌+◌, ◌∙◌, List, ap}
use Rattle.dbus_values.specs.Spelling.{spelled_length}
use Rattle.portal_model.specs.Changed.{changed_value, rows_value}
use Rattle.portal_model.specs.declared.records.Row.{Row}
use Rattle.store_data.proofs.ChangedBody.{body-end, datum-within}
use Rattle.store_data.proofs.EndLemmas.{ends-at, past}
use Rattle.store_data.proofs.lengths.record_end.Goals as goal

pub returns-in_err-rows : goal.returns-in_err-rows
returns-in_err-rows c =
    let front = c.in_ok-front.front in
    let entry = c.args.entry.now in
    let datum = c.args.datum.now in
    past c.from_residual-in_err-rows.result (front + spelled_length front datum) (spelled_length 0 (changed_value entry datum)) c.from_residual-in_err-rows.ensures c.in_err-rows.ensures
    (datum-within entry datum front c.in_ok-front.ensures.0)

pub returns : goal.returns
returns c =
    let rows = c.in_ok-rows.rows in
    let entry = c.args.entry.now in
    let datum = c.args.datum.now in
    ends-at (rows + spelled_length rows (rows_value c.as_slice.result.now)) (spelled_length 0 (changed_value entry datum)) c.rows_end.result
    (ap (λ (rs : List Row). rows + spelled_length rows (rows_value rs)) c.as_slice.ensures ∙ body-end entry datum c.in_ok-front.front rows c.in_ok-front.ensures.0 c.in_ok-rows.ensures.0)
    c.rows_end.ensures
