use Rattle.std.proofs.Common.{take}
use Rattle.document_records.specs.DocumentIndex.{ArePlaced}
use Rattle.document_records.proofs.placed.place_live.Given as goal

-- the documents so far have places
abbrev pub invariant-loop-document : goal.invariant-loop-document
invariant-loop-document l = ArePlaced (take l.document-index l.live) l.made l.places l.live_places
