use Rattle.std.proofs.Common.{◌≡◌, ◌≤◌, ◌∙◌, ap, subst, map, length, List}
use Rattle.std.proofs.lemmas.List.{take_all}
use Rattle.portal_model.specs.declared.state.Document.{Document}
use Rattle.portal_model.specs.Documents.{id_of_document}
use Rattle.document_records.specs.Documents.{DocumentList}
use Rattle.document_records.proofs.documents.Documents.ids.Goals as goal

pub returns : goal.returns
returns c =
    let same : c.live-document-items.result.now ≡ c.args.self.now.live =
    c.live-document-items.ensures.value ∙ ap (λ (s : DocumentList). s.live) c.self.view_is in
    let past : length c.args.self.now.live ≤ c.loop-document.document-index = subst (λ (ds : List Document). length ds ≤ c.loop-document.document-index) same c.loop-document-test.false in
    c.loop-document.invariant ∙ ap (λ (ds : List Document). map id_of_document ds) (take_all c.loop-document.document-index c.args.self.now.live past)
