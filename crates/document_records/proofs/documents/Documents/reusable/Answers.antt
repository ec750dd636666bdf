use Rattle.std.proofs.Common.{◌≡◌, ◌∙◌, [], ap, sym}
use Rattle.std.specs.List.{find}
use Rattle.std.specs.Option.{option_copied}
use Rattle.portal_base.specs.declared.names.doc_id.DocId.{DocId}
use Rattle.portal_model.specs.Documents.{reusable_of}
use Rattle.document_records.specs.DocumentIndex.{ids_found, ids_or_none, number_serves}
use Rattle.document_records.specs.Documents.{DocumentList}
use Rattle.document_records.proofs.DocumentsByPath.{serving-found}
use Rattle.document_records.proofs.documents.Documents.reusable.Goals as goal

pub returns-in_err-ids : goal.returns-in_err-ids
returns-in_err-ids c =
    let none : ids_found c.self.inside.by_path c.args.path.now ≡ [] =
    sym (ap ids_or_none c.get.ensures.value)
    ∙ ap ids_or_none (ap option_copied c.in_err-ids.was) in
    c.from_residual.ensures
    ∙ (ap (find (λ (id : DocId). number_serves c.self.inside.placed.live c.args.persistent
    c.args.strict c.args.folder id.number)) (sym none ∙ c.self.invariant c.args.path.now)
    ∙ (serving-found c.self.inside.placed.live c.args.path.now c.args.persistent c.args.strict c.args.folder
    c.known.ensures.live_differ
    ∙ ap (λ (s : DocumentList). reusable_of s.live c.args.path.now c.args.persistent
    c.args.strict c.args.folder) c.self.view_is))

pub returns : goal.returns
returns c =
    let found : ids_found c.self.inside.by_path c.args.path.now ≡ c.in_ok-ids.ids.now =
    sym (ap ids_or_none c.get.ensures.value)
    ∙ ap ids_or_none (ap option_copied c.in_ok-ids.was) in
    c.first_with_flags.ensures
    ∙ (ap (find (λ (id : DocId). number_serves c.self.inside.placed.live c.args.persistent
    c.args.strict c.args.folder id.number))
    (c.as_slice.ensures ∙ (sym found ∙ c.self.invariant c.args.path.now))
    ∙ (serving-found c.self.inside.placed.live c.args.path.now c.args.persistent c.args.strict c.args.folder
    c.known.ensures.live_differ
    ∙ ap (λ (s : DocumentList). reusable_of s.live c.args.path.now c.args.persistent
    c.args.strict c.args.folder) c.self.view_is))
