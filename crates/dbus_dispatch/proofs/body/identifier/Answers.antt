use Rattle.std.proofs.Common.{◌∙◌, sym, subst}
use Rattle.std.specs.Prelude.{IsUtf8}
use Rattle.dbus_dispatch.proofs.Identifiers.{identifier_text}
use Rattle.dbus_dispatch.proofs.body.identifier.Goals as goal

pub returns : goal.returns
returns c = c.from_string.ensures ∙ (c.in_ok-text.ensures.ok (subst IsUtf8 (sym c.text.ensures.digits) (identifier_text c.args.document.now.id.number).0) ∙ c.text.ensures.digits)
