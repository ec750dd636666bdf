use Rattle.change_signals.proofs.BoxLemmas.{untold-from, back-from}
use Rattle.change_signals.proofs.outboxes.Outboxes.unpost.Goals as goal

pub returns-clause-last : goal.returns-clause-last
returns-clause-last c = untold-from _ _ _ c.len-count.result c.self.view_is c.len-count.ensures.len c.unpost_first.ensures

pub returns-clause-back : goal.returns-clause-back
returns-clause-back c =
    back-from _ _ (untold-from _ _ _ c.len-count.result c.self.view_is c.len-count.ensures.len c.unpost_first.ensures)
