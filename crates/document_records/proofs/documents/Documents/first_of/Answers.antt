use Rattle.std.proofs.Common.{◌≡◌, ◌∙◌, List, [], ap, sym}
use Rattle.std.specs.List.{slice_get}
use Rattle.std.specs.Option.{option_copied}
use Rattle.portal_base.specs.declared.names.doc_id.DocId.{DocId}
use Rattle.portal_model.specs.Documents.{first_of}
use Rattle.document_records.specs.DocumentIndex.{ids_found, ids_or_none}
use Rattle.document_records.specs.Documents.{DocumentList}
use Rattle.document_records.proofs.DocumentsByPath.{first-found}
use Rattle.document_records.proofs.documents.Documents.first_of.Goals as goal

pub returns-in_err-get : goal.returns-in_err-get
returns-in_err-get c =
    let none : ids_found c.self.inside.by_path c.args.path.now ≡ [] =
    sym (ap ids_or_none c.get.ensures.value)
    ∙ ap ids_or_none (ap option_copied c.in_err-get.was) in
    c.from_residual.ensures
    ∙ (ap (λ (ids : List DocId). slice_get ids 0) (sym none ∙ c.self.invariant c.args.path.now)
    ∙ (first-found c.self.inside.placed.live c.args.path.now
    ∙ ap (λ (s : DocumentList). first_of s.live c.args.path.now) c.self.view_is))

pub returns : goal.returns
returns c =
    let found : ids_found c.self.inside.by_path c.args.path.now ≡ c.in_ok-get.field-0.now =
    sym (ap ids_or_none c.get.ensures.value)
    ∙ ap ids_or_none (ap option_copied c.in_ok-get.was) in
    c.copied.ensures
    ∙ (c.first.ensures
    ∙ (ap (λ (ids : List DocId). slice_get ids 0) (sym found ∙ c.self.invariant c.args.path.now)
    ∙ (first-found c.self.inside.placed.live c.args.path.now
    ∙ ap (λ (s : DocumentList). first_of s.live c.args.path.now) c.self.view_is)))
