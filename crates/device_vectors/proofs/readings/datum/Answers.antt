use Rattle.std.proofs.Common.{◌≡◌, ap, subst, sym, ◌∙◌}
use Rattle.dbus_types.specs.declared.types.Value.{Value}
use Rattle.dbus_types.specs.declared.types.Value.TheVariants as V
use Rattle.permission_table.specs.Tables.{IsSoundDatum}
use Rattle.portal_model.specs.Changed.{IsDatum, holds_handle}
use Rattle.portal_model.proofs.DataLaws.{datum-passes}
use Rattle.record_keeper.proofs.KeptFacts.{variant_holds}
use Rattle.device_vectors.proofs.readings.datum.Goals as goal

pub new-requires : goal.new-requires
new-requires c =
    let is : IsDatum c.in-Some.variant c.as_slice.result.now = rw c.in-Some.is at c.in_ok-variant.ensures in
    ap holds_handle c.into_inner.ensures ∙ (sym (variant_holds c.in-Variant.inside) ∙ (ap holds_handle (sym c.in-Variant.is) ∙ is.no_handle))

pub returns-in-Variant : goal.returns-in-Variant
returns-in-Variant c =
    let bytes = c.as_slice.result.now in
    let inside = c.in-Variant.inside in
    let is : IsDatum c.in-Some.variant bytes = rw c.in-Some.is at c.in_ok-variant.ensures in
    let there : IsDatum (V.Variant inside) bytes = subst (λ (v : Value). IsDatum v bytes) c.in-Variant.is is in
    subst IsSoundDatum (sym (c.new.ensures ∙ c.into_inner.ensures)) (datum-passes inside bytes there)
