use Rattle.std.proofs.Common.{List, take, get_or, refl, sym, subst}
use Rattle.std.proofs.lemmas.List.{take_more}
use Rattle.portal_base.specs.declared.names.doc_id.DocId.{DocId}
use Rattle.document_records.specs.DocumentIndex.{HasPlaces}
use Rattle.document_records.proofs.DocumentLemmas.{has-last}
use Rattle.document_records.proofs.placed.made_places.Goals as goal

pub loop-id-preserved : goal.loop-id-preserved
loop-id-preserved c =
    subst (λ (ids : List DocId). HasPlaces c.insert.new.self ids) (sym (take_more c.args.made.now c.loop-id.id-index _ c.loop-id-test.true))
    (has-last _ 0 c.loop-id.places c.insert.new.self c.in_ok-insert.ensures.updates.0 (take c.loop-id.id-index c.args.made.now) (get_or c.args.made.now c.loop-id.id-index _) refl c.loop-id.invariant)
