use Rattle.std.proofs.Common.{◌∙◌}
use Rattle.trace_items.proofs.ComingLaws.{knows-lent}
use Rattle.trace_items.proofs.coming.tells_of.Goals as goal

pub returns : goal.returns
returns c = λ s shows v. c.knows.ensures ∙ knows-lent c.args.lent.now s c.args.app.now c.args.path.now shows v
