use Rattle.std.proofs.Common.{◌∙◌, ap, sym, option_copied}
use Rattle.grant_revoke.proofs.LookupLemmas.{names-nothing, names-number}
use Rattle.trace_items.proofs.touches.document_named.Goals as goal

pub returns-in_err-read : goal.returns-in_err-read
returns-in_err-read c =
    ap option_copied c.from_residual.ensures ∙ sym (names-nothing c.args.documents.now.live c.args.doc.now (sym c.read.ensures ∙ c.in_err-read.was))

pub returns : goal.returns
returns c = c.find.ensures ∙ sym (names-number c.args.documents.now.live c.args.doc.now c.in_ok-read.field-0 (sym c.read.ensures ∙ c.in_ok-read.was))
