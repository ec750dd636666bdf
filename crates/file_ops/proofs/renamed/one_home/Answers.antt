use Rattle.std.proofs.Common.{refl, sym, ◌∙◌}
use Rattle.file_ops.proofs.renamed.one_home.Goals as goal

pub returns-then-is_same : goal.returns-then-is_same
returns-then-is_same c = (sym c.is_same.ensures ∙ c.if-is_same.true, refl)

pub returns-else-is_same : goal.returns-else-is_same
returns-else-is_same c = (sym c.is_same.ensures ∙ c.if-is_same.false, refl)
