use Rattle.std.proofs.Common.{◌≡◌, ◌++◌, ◌∷◌, [], take, length, false, true, nat_eq}
use Rattle.std.specs.List.{list_any}
use Rattle.portal_model.specs.declared.state.Document.{Document}
use Rattle.portal_model.specs.Valid.{is_made}
use Rattle.document_records.specs.DocumentIndex.{ArePlaced, live_numbers}
use Rattle.document_records.proofs.DocumentLemmas.{placed-more}
use Rattle.document_records.proofs.FreshItems.{not_before}
use Rattle.document_records.proofs.Loops.{all_item, one_more}
use Rattle.document_records.proofs.placed.place_live.Goals as goal

pub loop-document-preserved : goal.loop-document-preserved
loop-document-preserved c =
    let fresh : list_any (nat_eq c.document-item.result.id.number) (live_numbers (take c.loop-document.document-index c.args.live.now)) ≡ false =
    not_before c.args.live.now c.loop-document.document-index c.document-item.result c.loop-document-test.true c.document-item.is c.requires.differ in
    let is : is_made c.args.made.now c.document-item.result.id.number ≡ true =
    all_item (λ (d : Document). is_made c.args.made.now d.id.number) c.args.live.now c.loop-document.document-index c.document-item.result c.loop-document-test.true c.document-item.is c.requires.among in
    let more : ArePlaced (take c.loop-document.document-index c.args.live.now ++ c.document-item.result ∷ []) c.args.made.now c.insert.new.self (c.loop-document.live_places ++ length c.loop-document.live_places ∷ []) =
    placed-more (take c.loop-document.document-index c.args.live.now) c.document-item.result c.args.made.now c.loop-document.places c.insert.new.self c.loop-document.live_places c.loop-document.invariant fresh is (rw c.len-place.ensures at c.in_ok-insert.ensures.updates.0) in
    rw (c.in_ok-push.ensures.ok, c.len-place.ensures, one_more c.args.live.now c.loop-document.document-index c.document-item.result c.loop-document-test.true c.document-item.is) more
