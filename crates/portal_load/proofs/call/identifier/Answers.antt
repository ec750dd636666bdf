use Rattle.std.proofs.Common.{◌∙◌, sym, subst}
use Rattle.std.specs.Prelude.{IsUtf8}
use Rattle.portal_load.proofs.Identifiers.{identifier_text}
use Rattle.portal_load.proofs.call.identifier.Goals as goal

pub returns : goal.returns
returns c = c.from_string.ensures ∙ (c.in_ok-text.ensures.ok (subst IsUtf8 (sym c.text.ensures.digits) (identifier_text c.args.document.number)) ∙ c.text.ensures.digits)
