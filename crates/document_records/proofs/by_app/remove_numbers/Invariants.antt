use Rattle.std.proofs.Common.{take}
use Rattle.document_records.proofs.NumbersByApp.{AreTaken}
use Rattle.document_records.proofs.by_app.remove_numbers.Given as goal

-- the number is taken from those who have the grants so far
abbrev pub invariant-loop-grant : goal.invariant-loop-grant
invariant-loop-grant l = AreTaken l.id.number (take l.grant-index l.grants) l.initial.by_app l.by_app
