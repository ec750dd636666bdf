use Rattle.std.proofs.Common.{◌≡◌, take, map}
use Rattle.portal_model.specs.Opening.{document_kept}
use Rattle.document_records.proofs.live.documents.Given as goal

abbrev pub invariant-loop-item : goal.invariant-loop-item
invariant-loop-item l = l.live ≡ map document_kept (take l.item-index l.items)
