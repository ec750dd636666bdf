use Rattle.std.proofs.Common.{◌∙◌}
use Rattle.change_signals.proofs.BoxLemmas.{front-nil, is-false}
use Rattle.change_signals.proofs.outbox.Outbox.is_empty.Goals as goal

pub returns-else-is_empty : goal.returns-else-is_empty
returns-else-is_empty c = (
  λ t. absurd (is-false c.is_empty.result c.if-is_empty.false t),
  λ e. c.is_empty.ensures.1 (front-nil c.self.inside.returned c.self.inside.posted (c.self.view_is ∙ e)),
)
