use Rattle.std.proofs.Common.{sym, ap, is_some, ◌∙◌}
use Rattle.document_calls.proofs.GrantSteps.{numbered-already, unnumbered}
use Rattle.document_calls.proofs.granting.number.Goals as goal

pub returns-then-is_empty-clause-ok : goal.returns-then-is_empty-clause-ok
returns-then-is_empty-clause-ok c = unnumbered c.args.plan.now.app c.args.plan.now.rights c.args.applications.now (sym c.if-is_empty.ensures)

pub returns-then-is_some-clause-ok : goal.returns-then-is_some-clause-ok
returns-then-is_some-clause-ok c = numbered-already c.args.plan.now.app c.args.plan.now.rights c.args.applications.now (ap is_some (sym c.of.ensures) ∙ sym c.if-is_some.ensures)
