use Rattle.std.proofs.Common.{◌∙◌, sym, subst}
use Rattle.std.specs.Prelude.{IsUtf8}
use Rattle.document_records.proofs.AsciiTexts.{utf8-id}
use Rattle.document_records.proofs.texts.id_text.Goals as goal

pub returns : goal.returns
returns c = c.from_string.ensures ∙ (c.in_ok-text.ensures.ok (subst IsUtf8 (sym c.text.ensures.digits) (utf8-id c.args.id.number)) ∙ c.text.ensures.digits)
