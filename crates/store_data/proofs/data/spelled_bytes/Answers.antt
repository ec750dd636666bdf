use Rattle.std.proofs.Common.{◌+◌, None, Some, refl, arith, rules}
use Rattle.dbus_types.specs.declared.types.Value.TheVariants as V
use Rattle.dbus_values.specs.Values.{KeepsRules}
use Rattle.store_data.proofs.SpelledData.{deep-breaks, rules-break, walk-counts, walk-stops}
use Rattle.store_data.proofs.WalkedParts.{signature_bytes, variant-passes, variant-stops}
use Rattle.store_data.proofs.data.spelled_bytes.Goals as goal

pub returns-then-nesting-ge-MOST_NESTED : goal.returns-then-nesting-ge-MOST_NESTED
returns-then-nesting-ge-MOST_NESTED c = deep-breaks c.args.datum.now c.nesting.result c.nesting.ensures (omega arith)

pub returns-then-not-keeps_rules : goal.returns-then-not-keeps_rules
returns-then-not-keeps_rules c = rules-break c.args.datum.now (λ k. cc (c.keeps_rules.ensures.1 k))

pub returns-in_err-inside : goal.returns-in_err-inside
returns-in_err-inside c =
    walk-stops c.args.datum.now c.from_residual.result c.from_residual.ensures
    (variant-stops 0 (V.Variant c.args.datum.now) c.args.datum.now refl (c.in_err-inside.ensures 0 0 (c.keeps_rules.ensures.0 (search rules)).0 (record { counted = refl; phase = refl })))

pub returns-in_err-end : goal.returns-in_err-end
returns-in_err-end c =
    let datum = c.args.datum.now in
    let rules_kept : KeepsRules datum = c.keeps_rules.ensures.0 (search rules) in
    let ahead = c.in_ok-inside.ensures 0 0 rules_kept.0 (record { counted = refl; phase = refl }) in
    walk-stops datum c.from_residual-in_err-end.result c.from_residual-in_err-end.ensures
    (variant-passes 0 0 (V.Variant datum) datum None refl ahead.0 (c.in_err-end.ensures (0 + signature_bytes datum) (0 + signature_bytes datum) (64, rules_kept.1) ahead.1))

pub returns : goal.returns
returns c =
    let datum = c.args.datum.now in
    let rules_kept : KeepsRules datum = c.keeps_rules.ensures.0 (search rules) in
    let ahead = c.in_ok-inside.ensures 0 0 rules_kept.0 (record { counted = refl; phase = refl }) in
    walk-counts datum c.nesting.result c.in_ok-end.end c.nesting.ensures (omega arith)
    (variant-passes 0 0 (V.Variant datum) datum (Some c.in_ok-end.end) refl ahead.0 (c.in_ok-end.ensures (0 + signature_bytes datum) (0 + signature_bytes datum) (64, rules_kept.1) ahead.1))
