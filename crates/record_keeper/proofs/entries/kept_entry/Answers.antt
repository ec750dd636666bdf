use Rattle.std.proofs.Common.{◌≡◌, ◌∙◌, sym, ap, subst}
use Rattle.dbus_types.specs.declared.types.Value.{Value}
use Rattle.dbus_types.specs.declared.types.Value.TheVariants as V
use Rattle.portal_model.specs.Changed.{IsDatum, holds_handle}
use Rattle.portal_model.specs.StoreLaws.{entry_of_record}
use Rattle.record_keeper.specs.KeptEntries.{KeepsEntry}
use Rattle.record_keeper.proofs.KeptFacts.{keeps, spelled_variant, variant_holds}
use Rattle.record_keeper.proofs.entries.kept_entry.Goals as goal

-- the record's bytes are data
pub unreachable-requires : goal.unreachable-requires
unreachable-requires c =
    let none : (datum : Value) → IsDatum datum c.as_slice.result.now → ⊥ = rw c.in_default.is at c.in_ok-variant.ensures in
    none c.requires.told.0 (subst (IsDatum c.requires.told.0) (sym c.as_slice.ensures) c.requires.told.1.is)

-- and these are a variant
pub unreachable-requires-in_default-variant : goal.unreachable-requires-in_default-variant
unreachable-requires-in_default-variant c =
    let is : IsDatum c.in-Some.variant c.as_slice.result.now = rw c.in-Some.is at c.in_ok-variant.ensures in
    let one = spelled_variant c.in-Some.variant c.as_slice.result.now is.spelled in
    c.in_default-variant.not-Variant one.0 one.1

pub new-requires : goal.new-requires
new-requires c =
    let is : IsDatum c.in-Some.variant c.as_slice.result.now = rw c.in-Some.is at c.in_ok-variant.ensures in
    ap holds_handle c.into_inner.ensures ∙ (sym (variant_holds c.in-Variant.inside) ∙ (ap holds_handle (sym c.in-Variant.is) ∙ is.no_handle))

pub returns : goal.returns
returns c =
    let kept = c.args.kept in
    let inside = c.in-Variant.inside in
    let is : IsDatum c.in-Some.variant c.as_slice.result.now = rw c.in-Some.is at c.in_ok-variant.ensures in
    let there : IsDatum (V.Variant inside) kept.datum =
    subst (IsDatum (V.Variant inside)) c.as_slice.ensures (subst (λ (v : Value). IsDatum v c.as_slice.result.now) c.in-Variant.is is) in
    let datum : c.new.result ≡ inside = c.new.ensures ∙ c.into_inner.ensures in
    subst (λ (d : Value). KeepsEntry kept (entry_of_record kept d)) (sym datum) (keeps kept inside c.requires there)
