use Rattle.std.proofs.Common.{rules}
use Rattle.change_signals.proofs.BoxLemmas.{none-waiting, some-waiting}
use Rattle.change_signals.proofs.outboxes.Outboxes.waiting.Goals as goal

pub returns-in-Some : goal.returns-in-Some
returns-in-Some c = some-waiting c.self.inside.boxes.entries c.args.self.now c.args.seat c.in-Some.outbox.now c.is_empty.result c.self.view_is (search rules) c.is_empty.ensures

pub returns-in-None : goal.returns-in-None
returns-in-None c = none-waiting c.self.inside.boxes.entries c.args.self.now c.args.seat c.self.view_is (search rules)
