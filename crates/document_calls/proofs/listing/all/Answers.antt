use Rattle.document_calls.proofs.ListedDocuments.{sorted-all}
use Rattle.document_calls.proofs.listing.all.Goals as goal

pub returns : goal.returns
returns c =
    sorted-all c.args.documents.now.live c.live.result.now c.in_ok-list.list c.by_number.result
    c.live.ensures.value c.live.ensures.kept.live_differ c.in_ok-list.ensures
    c.by_number.ensures.same c.by_number.ensures.order
