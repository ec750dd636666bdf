use Rattle.std.proofs.Common.{◌≡◌, ◌∙◌, List, ap, map, nat_eq, subst, sym, true}
use Rattle.std.specs.List.{list_all, IsDistinct}
use Rattle.std.proofs.lemmas.List.{take_all}
use Rattle.portal_base.specs.Names.{is_host_path}
use Rattle.portal_model.specs.declared.opening.OpeningDocument.{OpeningDocument}
use Rattle.portal_model.specs.declared.state.Document.{Document}
use Rattle.portal_model.specs.Opening.{document_kept}
use Rattle.portal_model.specs.Valid.{is_made}
use Rattle.document_records.specs.DocumentIndex.{live_numbers}
use Rattle.document_records.proofs.KeptNumbers.{kept_among, kept_differ}
use Rattle.document_records.proofs.Loops.{all_map}
use Rattle.document_records.proofs.live.documents.Goals as goal

pub document-requires : goal.document-requires
document-requires c = all_map document_kept (λ (d : Document). is_host_path d.path) c.args.items.now c.loop-item.item-index c.item-item.result c.loop-item-test.true c.item-item.is c.requires.paths

pub of-requires-clause-differ : goal.of-requires-clause-differ
of-requires-clause-differ c =
    let all : c.loop-item.live ≡ map document_kept c.args.items.now = c.loop-item.invariant ∙ ap (λ (ds : List OpeningDocument). map document_kept ds) (take_all c.loop-item.item-index c.args.items.now c.loop-item-test.false) in
    subst (λ (ds : List Document). IsDistinct nat_eq (live_numbers ds)) (sym all) (kept_differ c.args.items.now c.requires.differ)

pub of-requires-clause-among : goal.of-requires-clause-among
of-requires-clause-among c =
    let all : c.loop-item.live ≡ map document_kept c.args.items.now = c.loop-item.invariant ∙ ap (λ (ds : List OpeningDocument). map document_kept ds) (take_all c.loop-item.item-index c.args.items.now c.loop-item-test.false) in
    subst (λ (ds : List Document). list_all (λ d. is_made c.args.made.now d.id.number) ds ≡ true) (sym all) (kept_among c.args.made.now c.args.items.now ∙ c.requires.made_of)
