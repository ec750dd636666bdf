use Rattle.std.proofs.Common.{subst}
use Rattle.document_records.specs.DocumentIndex.{AreKept}
use Rattle.document_records.proofs.DocumentLemmas.{kept-seen}
use Rattle.document_records.proofs.placed.PlacedDocuments.room.Goals as goal

pub returns-clause-kept : goal.returns-clause-kept
returns-clause-kept c = subst AreKept c.self.view_is (kept-seen _ c.self.inside.places c.self.inside.live_places c.self.invariant)
