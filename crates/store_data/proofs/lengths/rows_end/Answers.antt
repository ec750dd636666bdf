use Rattle.std.proofs.Common.{◌+◌, ◌∙◌, ℕ, map, ap, arith}
use Rattle.dbus_values.specs.Spelling.{spelled_length, spelled_lengths}
use Rattle.portal_model.specs.Changed.{row_value, rows_value}
use Rattle.store_data.specs.Ends.{elements_at}
use Rattle.store_data.proofs.EndLemmas.{ends-at, past, rows-end}
use Rattle.store_data.proofs.lengths.rows_end.Goals as goal

pub returns-in_err-first : goal.returns-in_err-first
returns-in_err-first c =
    let whole = rows-end c.args.at c.args.rows.now in
    past c.from_residual.result (elements_at 8 c.args.at) (c.args.at + spelled_length c.args.at (rows_value c.args.rows.now)) c.from_residual.ensures c.in_err-first.ensures (omega (arith, whole))

pub returns : goal.returns
returns c =
    let values = map row_value c.args.rows.now in
    ends-at (c.in_ok-first.first + spelled_lengths c.in_ok-first.first values) (c.args.at + spelled_length c.args.at (rows_value c.args.rows.now)) c.each_row_end.result
    (ap (λ (n : ℕ). n + spelled_lengths n values) c.in_ok-first.ensures.0 ∙ rows-end c.args.at c.args.rows.now) c.each_row_end.ensures
