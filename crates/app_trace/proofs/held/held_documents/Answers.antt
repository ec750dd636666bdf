use Rattle.app_trace.proofs.HeldInOrder.{sorted-held}
use Rattle.app_trace.proofs.held.held_documents.Goals as goal

pub returns : goal.returns
returns c =
    sorted-held c.args.rights.now c.args.app.now c.args.items.now c.in_ok-held.held c.by_number.result c.in_ok-held.ensures c.requires.differ
    c.by_number.ensures.same c.by_number.ensures.order
