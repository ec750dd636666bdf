use Rattle.std.proofs.Common.{◌∙◌}
use Rattle.trace_items.proofs.ComingLaws.{names-lent}
use Rattle.trace_items.proofs.coming.names_file.Goals as goal

pub returns : goal.returns
returns c = λ s shows v. c.names.ensures ∙ names-lent c.args.lent.now s c.args.app.now c.args.name.now shows v
