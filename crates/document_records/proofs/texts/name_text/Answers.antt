use Rattle.std.proofs.Common.{◌∙◌, sym, subst}
use Rattle.std.specs.Prelude.{IsUtf8}
use Rattle.document_records.proofs.AsciiTexts.{utf8-name}
use Rattle.document_records.proofs.texts.name_text.Goals as goal

pub returns : goal.returns
returns c = c.from_string.ensures ∙ (c.in_ok-text.ensures.ok (subst IsUtf8 (sym c.as_bytes.ensures.bytes) (utf8-name c.args.app.now c.as_bytes.ensures.rule)) ∙ c.as_bytes.ensures.bytes)
