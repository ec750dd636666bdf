use Rattle.std.proofs.Common.{◌+◌, ◌∙◌, ℕ, map, ap, arith}
use Rattle.dbus_values.specs.Spelling.{spelled_length, spelled_lengths}
use Rattle.dbus_types.specs.declared.types.Value.TheVariants as V
use Rattle.portal_model.specs.Changed.{texts_value}
use Rattle.store_data.specs.Ends.{elements_at}
use Rattle.store_data.proofs.EndLemmas.{ends-at, past, texts-end}
use Rattle.store_data.proofs.lengths.texts_end.Goals as goal

pub returns-in_err-first : goal.returns-in_err-first
returns-in_err-first c =
    let whole = texts-end c.args.at c.args.texts.now in
    past c.from_residual.result (elements_at 4 c.args.at) (c.args.at + spelled_length c.args.at (texts_value c.args.texts.now)) c.from_residual.ensures c.in_err-first.ensures (omega (arith, whole))

pub returns : goal.returns
returns c =
    let values = map (λ t. V.Str t) c.args.texts.now in
    ends-at (c.in_ok-first.first + spelled_lengths c.in_ok-first.first values) (c.args.at + spelled_length c.args.at (texts_value c.args.texts.now)) c.each_text_end.result
    (ap (λ (n : ℕ). n + spelled_lengths n values) c.in_ok-first.ensures.0 ∙ texts-end c.args.at c.args.texts.now) c.each_text_end.ensures
