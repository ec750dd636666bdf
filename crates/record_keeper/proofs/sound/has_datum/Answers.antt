use Rattle.std.proofs.Common.{◌≡◌, nat_le, refl, sym, ap, ◌∙◌, []}
use Rattle.std.proofs.lemmas.Bool.{leb-true, le-leb}
use Rattle.dbus_types.specs.declared.types.Endian.TheVariants.{Little}
use Rattle.dbus_types.specs.declared.types.Value.{Value}
use Rattle.dbus_types.specs.declared.types.WireType.TheVariants as W
use Rattle.portal_model.specs.Changed.{IsDatum, changed_length, message_limit}
use Rattle.record_keeper.proofs.sound.has_datum.Goals as goal

pub returns : goal.returns
returns c =
    let entry = c.args.entry.now in
    let datum = c.in-Some.datum in
    let told : c.record_can_be_told.result ≡ nat_le (changed_length entry datum) message_limit = c.record_can_be_told.ensures in
    let is : IsDatum datum entry.datum = rw (← c.as_slice.ensures) (rw c.in-Some.is at c.in_ok-datum.ensures) in (
      λ yes. (datum, record { is = is; told = leb-true _ _ (sym told ∙ yes) }),
      λ has.
          let same : datum ≡ has.0 = (c.one_spelling.ensures Little 0 W.Variant datum has.0 entry.datum entry.datum [] [] is.spelled has.1.is.spelled refl).0 in
          told ∙ (ap (λ (v : Value). nat_le (changed_length entry v) message_limit) same ∙ le-leb _ _ has.1.told),
    )
