use Rattle.std.proofs.Common.{List, ◌∙◌, ap, arith}
use Rattle.std.specs.List.{flat_map}
use Rattle.std.proofs.lemmas.List.{take_all}
use Rattle.portal_base.specs.declared.names.doc_id.DocId.{DocId}
use Rattle.document_calls.specs.Answers.{listed_found}
use Rattle.document_calls.proofs.ListedDocuments.{found-held}
use Rattle.document_calls.proofs.listing.held.Goals as goal

pub returns : goal.returns
returns c =
    let live = c.args.documents.now.live in
    let items = c.as_slice-id-items.result.now in
    c.loop-id.invariant
    ∙ (ap (λ (xs : List DocId). flat_map (listed_found live) xs)
    (take_all c.loop-id.id-index items (omega arith)
    ∙ (c.as_slice-id-items.ensures ∙ c.in_ok-ids.ensures))
    ∙ found-held c.args.grants.now c.args.app.now live c.live.ensures.kept.live_differ)
