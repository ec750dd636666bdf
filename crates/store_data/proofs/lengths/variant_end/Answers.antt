use Rattle.std.proofs.Common.{◌+◌, ◌∙◌, ℕ, ap, arith}
use Rattle.dbus_types.specs.declared.types.Value.TheVariants as V
use Rattle.dbus_values.specs.Values.{type_of}
use Rattle.dbus_values.specs.Spelling.{spelled_length}
use Rattle.store_data.specs.Ends.{inside_at}
use Rattle.store_data.proofs.EndLemmas.{ends-at, past, variant-end}
use Rattle.store_data.proofs.lengths.variant_end.Goals as goal

pub returns-in_err-inside : goal.returns-in_err-inside
returns-in_err-inside c =
    let at = c.args.at in
    let value = c.args.value.now in
    let whole = variant-end at value in
    past c.from_residual.result (inside_at (type_of value) at) (at + spelled_length at (V.Variant value)) c.from_residual.ensures c.in_err-inside.ensures (omega (arith, whole))

pub returns : goal.returns
returns c =
    let at = c.args.at in
    let value = c.args.value.now in
    let inside = c.in_ok-inside.inside in
    ends-at (inside + spelled_length inside value) (at + spelled_length at (V.Variant value)) c.value_end.result
    (ap (λ (n : ℕ). n + spelled_length n value) c.in_ok-inside.ensures.0 ∙ variant-end at value) c.value_end.ensures
