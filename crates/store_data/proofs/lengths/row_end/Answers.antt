use Rattle.std.proofs.Common.{◌≡◌, ◌+◌, ◌∙◌, ℕ, List, ap, arith}
use Rattle.dbus_types.specs.declared.types.Value.TheVariants as V
use Rattle.dbus_values.specs.Spells.{gap}
use Rattle.dbus_values.specs.Spelling.{spelled_length}
use Rattle.portal_model.specs.Changed.{row_value, texts_value}
use Rattle.store_data.proofs.EndLemmas.{ends-at, past, entry-end}
use Rattle.store_data.proofs.lengths.row_end.Goals as goal

pub returns-in_err-names : goal.returns-in_err-names
returns-in_err-names c =
    let at = c.args.at in
    let row = c.args.row.now in
    let app = c.in_ok-app.app in
    let whole = entry-end at (V.Str row.app) (texts_value row.names) in
    let moved = ap (λ (n : ℕ). n + spelled_length n (V.Str row.app)) c.in_ok-app.ensures.0 in
    past c.from_residual-in_err-names.result (app + spelled_length app (V.Str row.app)) (at + spelled_length at (row_value row)) c.from_residual-in_err-names.ensures c.in_err-names.ensures (omega (arith, whole, moved))

pub returns : goal.returns
returns c =
    let at = c.args.at in
    let row = c.args.row.now in
    let app = c.in_ok-app.app in
    let names = c.in_ok-names.names in
    let moved = ap (λ (n : ℕ). n + spelled_length n (V.Str row.app)) c.in_ok-app.ensures.0 in
    let long : names ≡ (at + gap 8 at) + spelled_length (at + gap 8 at) (V.Str row.app) = c.in_ok-names.ensures.0 ∙ moved in
    ends-at (names + spelled_length names (texts_value c.as_slice.result.now)) (at + spelled_length at (row_value row)) c.texts_end.result
    (ap (λ (ts : List (List ℕ)). names + spelled_length names (texts_value ts)) c.as_slice.ensures
    ∙ (ap (λ (n : ℕ). n + spelled_length n (texts_value row.names)) long ∙ entry-end at (V.Str row.app) (texts_value row.names)))
    c.texts_end.ensures
