use Rattle.std.proofs.Common.{◌∙◌, ap, sym}
use Rattle.std.specs.List.{slice_get}
use Rattle.std.specs.Option.{option_copied}
use Rattle.document_records.specs.Documents.{DocumentList, has_number}
use Rattle.document_records.proofs.DocumentLemmas.{not-found, found-by-place}
use Rattle.document_records.proofs.placed.PlacedDocuments.find.Goals as goal

pub returns-in_err-at : goal.returns-in_err-at
returns-in_err-at c =
    ap option_copied c.from_residual.ensures
    ∙ sym (not-found (has_number c.args.id.number) c.args.self.now.live (sym c.place_of.ensures ∙ c.in_err-at.was))

pub returns : goal.returns
returns c =
    c.get.ensures
    ∙ (ap (λ (s : DocumentList). slice_get s.live c.in_ok-at.at) c.self.view_is
    ∙ found-by-place (has_number c.args.id.number) c.args.self.now.live c.in_ok-at.at (sym c.place_of.ensures ∙ c.in_ok-at.was))
