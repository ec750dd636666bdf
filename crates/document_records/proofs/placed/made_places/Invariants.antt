use Rattle.std.proofs.Common.{take}
use Rattle.document_records.specs.DocumentIndex.{HasPlaces}
use Rattle.document_records.proofs.placed.made_places.Given as goal

-- the numbers so far have places
abbrev pub invariant-loop-id : goal.invariant-loop-id
invariant-loop-id l = HasPlaces l.places (take l.id-index l.made)
