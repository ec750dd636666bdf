use Rattle.std.proofs.Common.{None, option_copied, sym, ◌∙◌}
use Rattle.trace_items.proofs.NodeParts.{by-handle, by-place, if-ok}
use Rattle.trace_items.proofs.nodes.length_set.Goals as goal

pub returns-then-sets_by_handle : goal.returns-then-sets_by_handle
returns-then-sets_by_handle c = if-ok c.open_resized.result c.open_resized.ensures (λ u e.
    by-handle c.args.valid c.args.size None (option_copied c.args.handle) c.args.looks.now c.args.now (option_copied c.args.seen) _ (sym c.sets_by_handle.ensures ∙ c.if-sets_by_handle.true) e)

pub returns : goal.returns
returns c = if-ok c.shown_resized.result c.shown_resized.ensures (λ u e.
    by-place c.args.valid c.args.size None (option_copied c.args.handle) c.args.looks.now c.args.now (option_copied c.args.seen) _ (sym c.sets_by_handle.ensures ∙ c.if-sets_by_handle.false) e)
