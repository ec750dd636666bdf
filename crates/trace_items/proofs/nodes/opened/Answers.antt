use Rattle.std.proofs.Common.{option_copied, sym, ◌∙◌}
use Rattle.trace_items.proofs.NodeParts.{if-ok, open-cuts, open-stays}
use Rattle.trace_items.proofs.nodes.opened.Goals as goal

pub returns-then-truncates : goal.returns-then-truncates
returns-then-truncates c = if-ok c.shown_resized.result c.shown_resized.ensures (λ u e sight p.
    open-cuts c.args.flags sight c.args.looks.now c.args.now (option_copied c.args.seen) _ (sym c.truncates.ensures ∙ c.if-truncates.true) p e)

pub returns : goal.returns
returns c = λ sight p. open-stays c.args.flags sight c.args.looks.now c.args.now (sym c.truncates.ensures ∙ c.if-truncates.false)
