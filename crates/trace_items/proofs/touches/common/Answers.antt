use Rattle.std.proofs.Common.{◌∙◌, ap}
use Rattle.rights_rule.specs.Rights.{minus}
use Rattle.trace_items.proofs.SetsOfRights.{minus-twice}
use Rattle.trace_items.proofs.touches.common.Goals as goal

pub returns : goal.returns
returns c = c.minus-2.ensures ∙ (ap (minus c.args.first) c.minus.ensures ∙ minus-twice c.args.first c.args.second)
