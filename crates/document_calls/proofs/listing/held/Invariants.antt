use Rattle.std.proofs.Common.{◌≡◌, take}
use Rattle.std.specs.List.{flat_map}
use Rattle.document_calls.specs.Answers.{listed_found}
use Rattle.document_calls.proofs.listing.held.Given as goal

-- the documents so far that are live
abbrev pub invariant-loop-id : goal.invariant-loop-id
invariant-loop-id l = l.list ≡ flat_map (listed_found l.documents.live) (take l.id-index l.id-items)
