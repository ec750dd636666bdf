use Rattle.std.proofs.Common.{Bool, ◌↔◌, sym, subst}
use Rattle.std.specs.Prelude.{IsTrue}
use Rattle.dbus_values.specs.Values.{IsSignatureText}
use Rattle.dbus_values.proofs.LimitsByLayer.{signature_checked}
use Rattle.dbus_values.proofs.keeping.is_signature.Goals as goal

pub returns : goal.returns
returns c = subst (λ (b : Bool). IsTrue b ↔ IsSignatureText c.args.text.now) (sym c.is_ok.ensures.value) (signature_checked c.args.text.now c.check_signature.result c.check_signature.ensures.checked)
