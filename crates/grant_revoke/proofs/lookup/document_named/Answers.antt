use Rattle.std.proofs.Common.{◌∙◌, ap, sym}
use Rattle.std.specs.Option.{option_map, option_copied}
use Rattle.portal_model.specs.Documents.{id_of_document}
use Rattle.grant_revoke.proofs.LookupLemmas.{names-nothing, names-number}
use Rattle.grant_revoke.proofs.lookup.document_named.Goals as goal

pub returns-in_err-read : goal.returns-in_err-read
returns-in_err-read c =
    c.from_residual.ensures
    ∙ sym (ap (option_map id_of_document) (names-nothing c.args.documents.now.live c.args.doc.now (sym c.read.ensures ∙ c.in_err-read.was)))

pub returns-in_err-document : goal.returns-in_err-document
returns-in_err-document c =
    c.from_residual-in_err-document.ensures
    ∙ sym (ap (option_map id_of_document)
    (names-number c.args.documents.now.live c.args.doc.now c.in_ok-read.field-0 (sym c.read.ensures ∙ c.in_ok-read.was)
    ∙ (sym c.find.ensures ∙ ap option_copied c.in_err-document.was)))

pub returns : goal.returns
returns c =
    sym (ap (option_map id_of_document)
    (names-number c.args.documents.now.live c.args.doc.now c.in_ok-read.field-0 (sym c.read.ensures ∙ c.in_ok-read.was)
    ∙ (sym c.find.ensures ∙ ap option_copied c.in_ok-document.was)))
