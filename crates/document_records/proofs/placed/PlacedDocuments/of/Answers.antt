use Rattle.document_records.proofs.DocumentLemmas.{indexed-of}
use Rattle.document_records.proofs.placed.PlacedDocuments.of.Goals as goal

pub invariant_of-result : goal.invariant_of-result
invariant_of-result c =
    rw (c.live.view_is, c.in_ok-copied.ensures)
    (indexed-of c.args.limits.now.documents c.args.limits.now.made c.args.live c.args.made.now c.place_live.new.places c.in_ok-live_places.live_places c.requires.differ c.requires.among c.requires.live c.requires.made c.requires.limit (rw c.as_slice.ensures at c.in_ok-live_places.ensures))
