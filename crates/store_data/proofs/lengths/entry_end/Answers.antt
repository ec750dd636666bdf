use Rattle.std.proofs.Common.{◌≡◌, ◌+◌, ◌∙◌, List, ap}
use Rattle.dbus_types.specs.declared.types.Value.{Value}
use Rattle.dbus_types.specs.declared.types.Value.TheVariants as V
use Rattle.dbus_values.specs.Spelling.{spelled_length}
use Rattle.portal_model.specs.Changed.{changed_value, rows_value}
use Rattle.portal_model.specs.Store.{record_of}
use Rattle.portal_model.specs.declared.records.Row.{Row}
use Rattle.store_data.proofs.ChangedBody.{body-end, datum-within}
use Rattle.store_data.proofs.EndLemmas.{ends-at, past}
use Rattle.store_data.proofs.lengths.entry_end.Goals as goal

pub returns-in_err-rows : goal.returns-in_err-rows
returns-in_err-rows c =
    let at = c.in_ok-datum.datum in
    let entry = c.args.entry.now in
    let datum : Value = V.Variant entry.datum in
    past c.from_residual-in_err-rows.result (at + spelled_length at datum) (spelled_length 0 (changed_value (record_of entry) datum)) c.from_residual-in_err-rows.ensures
    (rw c.value.ensures.value at c.in_err-rows.ensures) (datum-within (record_of entry) datum at c.in_ok-datum.ensures.0)

pub returns : goal.returns
returns c =
    let at = c.in_ok-datum.datum in
    let rows = c.in_ok-rows.rows in
    let entry = c.args.entry.now in
    let datum : Value = V.Variant entry.datum in
    let long : rows ≡ at + spelled_length at datum = c.in_ok-rows.ensures.0 ∙ ap (λ (v : Value). at + spelled_length at (V.Variant v)) c.value.ensures.value in
    ends-at (rows + spelled_length rows (rows_value c.as_slice.result.now)) (spelled_length 0 (changed_value (record_of entry) datum)) c.rows_end.result
    (ap (λ (rs : List Row). rows + spelled_length rows (rows_value rs)) c.as_slice.ensures ∙ body-end (record_of entry) datum at rows c.in_ok-datum.ensures.0 long)
    c.rows_end.ensures
