use Rattle.std.proofs.Common.{option_copied, sym, ◌∙◌}
use Rattle.trace_items.proofs.NodeParts.{if-ok, length-set, length-stays}
use Rattle.trace_items.proofs.nodes.attributes_set.Goals as goal

pub returns-then-sets_size : goal.returns-then-sets_size
returns-then-sets_size c = if-ok c.length_set.result c.length_set.ensures (λ u e sight p.
    length-set c.args.valid c.args.size sight (option_copied c.args.handle) c.args.looks.now c.args.now (option_copied c.args.seen) _ (sym c.sets_size.ensures ∙ c.if-sets_size.true) p e)

pub returns : goal.returns
returns c = λ sight p. length-stays c.args.valid c.args.size sight (option_copied c.args.handle) c.args.looks.now c.args.now (sym c.sets_size.ensures ∙ c.if-sets_size.false)
