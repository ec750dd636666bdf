use Rattle.std.proofs.Common.{ap, option_copied, sym, ◌∙◌}
use Rattle.trace_items.proofs.NodeParts.{if-ok, lends-book, mount-come, not-node, unmounted-come}
use Rattle.trace_items.proofs.Touched.{comes-stay}
use Rattle.trace_items.proofs.coming.change_awaited.Goals as goal

pub returns-in-Some : goal.returns-in-Some
returns-in-Some c = if-ok c.update_of.result c.update_of.ensures (λ u f s shows v l lend.
    mount-come c.args.lent.now s c.args.entry.now c.in-Node.request (option_copied c.args.connection) c.in-Some.mount.now _ shows v l c.in-Node.is lend
    (sym c.mount_of.ensures ∙ ap option_copied c.in-Some.is)
    (λ has own there mine. f s has own (lends-book c.args.lent.now s shows) there mine))

pub returns-in-None : goal.returns-in-None
returns-in-None c = λ s shows v l lend.
    unmounted-come c.args.lent.now s c.args.entry.now c.in-Node.request (option_copied c.args.connection) shows v l c.in-Node.is lend (sym c.mount_of.ensures ∙ ap option_copied c.in-None.is)

pub returns-in_default : goal.returns-in_default
returns-in_default c = λ s shows v l lend. comes-stay s c.args.entry.now (not-node c.args.entry.now.request c.in_default.not-Node)
