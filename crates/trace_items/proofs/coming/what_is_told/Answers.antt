use Rattle.std.proofs.Common.{ap, option_copied}
use Rattle.trace_items.specs.Awaited.{change_of, is_node}
use Rattle.trace_items.proofs.ComingLaws.{not-made, told-on-node, told-touches}
use Rattle.trace_items.proofs.NodeParts.{not-node}
use Rattle.trace_items.proofs.coming.what_is_told.Goals as goal

pub returns-in-Node : goal.returns-in-Node
returns-in-Node c = λ s shows v l lend comes.
    told-on-node c.args.app.now s c.args.entry.now (change_of c.args.change.now) c.changed.result (not-made c.args.app.now s c.args.entry.now (option_copied c.args.connection) lend c.made_by.ensures c.if-made_by.false)
    (ap is_node c.in-Node.is) comes (c.changed.ensures s shows v)

pub returns-in_ok-touches-in_default : goal.returns-in_ok-touches-in_default
returns-in_ok-touches-in_default c = λ s shows v l lend comes.
    let made = not-made c.args.app.now s c.args.entry.now (option_copied c.args.connection) lend c.made_by.ensures c.if-made_by.false in
    told-touches c.args.app.now s c.args.entry.now (change_of c.args.change.now) c.in_ok-touches-in_default.field-0 made
    (λ d. c.in_ok-touches-in_default.ensures s shows lend made (not-node c.args.entry.now.request c.in_default.not-Node) d)
