use Rattle.change_signals.proofs.BoxLemmas.{entered-as}
use Rattle.change_signals.proofs.outboxes.Outboxes.enter.Goals as goal

pub returns-clause-ok : goal.returns-clause-ok
returns-clause-ok c = entered-as _ _ _ c.args.seat c.new.result c.new.ensures c.self.view_is c.in_ok-insert.ensures.updates.0
