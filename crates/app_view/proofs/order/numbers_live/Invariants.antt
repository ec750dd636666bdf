use Rattle.std.proofs.Common.{◌≡◌, take}
use Rattle.document_records.specs.DocumentIndex.{live_numbers}
use Rattle.app_view.proofs.order.numbers_live.Given as goal

-- the numbers so far
abbrev pub invariant-loop-document : goal.invariant-loop-document
invariant-loop-document l = l.numbers.items ≡ live_numbers (take l.document-index l.document-items)
