use Rattle.add_calls.proofs.Counts.{caller-no, caller-yes}
use Rattle.add_calls.proofs.limit.is_numbered.Goals as goal

pub returns-then-is_caller : goal.returns-then-is_caller
returns-then-is_caller c = caller-yes c.args.applications.now c.args.who.now c.args.app.now c.is_caller.result c.is_caller.ensures c.if-is_caller.true

pub returns-else-is_caller : goal.returns-else-is_caller
returns-else-is_caller c = caller-no c.args.applications.now c.args.who.now c.args.app.now c.is_caller.result c.has_number.result c.is_caller.ensures c.if-is_caller.false c.has_number.ensures
