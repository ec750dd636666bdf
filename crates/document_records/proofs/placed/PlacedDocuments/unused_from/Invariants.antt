use Rattle.document_records.proofs.UnusedNumbers.{Walked, left}
use Rattle.portal_model.specs.Documents.{above}
use Rattle.document_records.proofs.placed.PlacedDocuments.unused_from.Given as goal

abbrev pub invariant-loop-self : goal.invariant-loop-self
invariant-loop-self l = Walked l.self-inside.made l.word l.number

abbrev pub decreases-loop-self : goal.decreases-loop-self
decreases-loop-self l = left l.word (above l.word l.number) l.self-inside.made
