use Rattle.std.proofs.Common.{ap, ◌∙◌}
use Rattle.app_world.specs.Add.{shown_by_content}
use Rattle.trace_items.proofs.NodeParts.{if-ok}
use Rattle.trace_items.proofs.own.holding.Goals as goal

pub returns : goal.returns
returns c = if-ok c.holding_with.result c.holding_with.ensures (λ shown e. e ∙ ap (shown_by_content c.args.files.now.present c.args.path.now c.args.exported) c.in_ok-content.ensures)
