use Rattle.std.proofs.Common.{◌≡◌, map, take}
use Rattle.portal_model.specs.Documents.{id_of_document}
use Rattle.document_records.proofs.documents.Documents.ids.Given as goal

-- the numbers so far
abbrev pub invariant-loop-document : goal.invariant-loop-document
invariant-loop-document l = l.ids ≡ map id_of_document (take l.document-index l.self.live)
