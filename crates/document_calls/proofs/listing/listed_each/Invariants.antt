use Rattle.std.proofs.Common.{◌≡◌, map, take}
use Rattle.portal_model.specs.ListDocuments.{listed}
use Rattle.document_calls.proofs.listing.listed_each.Given as goal

-- the documents so far
abbrev pub invariant-loop-document : goal.invariant-loop-document
invariant-loop-document l = l.list ≡ map listed (take l.document-index l.documents)
