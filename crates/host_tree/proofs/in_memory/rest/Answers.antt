use Rattle.std.proofs.Common.{refl, sym, ◌∙◌}
use Rattle.host_tree.proofs.in_memory.rest.Goals as goal

pub returns-then-has_named-clause-does : goal.returns-then-has_named-clause-does
returns-then-has_named-clause-does c = (refl, sym c.has_named.ensures ∙ c.if-has_named.true)

pub returns-else-has_named-clause-does : goal.returns-else-has_named-clause-does
returns-else-has_named-clause-does c = (refl, sym c.has_named.ensures ∙ c.if-has_named.false)
