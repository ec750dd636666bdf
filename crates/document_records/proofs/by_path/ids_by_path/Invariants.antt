use Rattle.std.proofs.Common.{take}
use Rattle.document_records.specs.DocumentIndex.{AreByPath}
use Rattle.document_records.proofs.by_path.ids_by_path.Given as goal

-- the documents so far are found by their paths
abbrev pub invariant-loop-document : goal.invariant-loop-document
invariant-loop-document l = AreByPath (take l.document-index l.live) l.by_path
