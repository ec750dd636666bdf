use Rattle.file_ops.proofs.ChildWalks.{lookup-long, lookup-numbering, unread-below}
use Rattle.file_ops.proofs.Tries.{called-more, on-err}
use Rattle.file_ops.proofs.children.lookup_below.Goals as goal

pub returns-then-is_too_long-clause-ok : goal.returns-then-is_too_long-clause-ok
returns-then-is_too_long-clause-ok g c = λ table temps.
    lookup-long c.args.call.now.request.now c.args.parent.now c.args.name.now temps c.is_too_long.result c.is_too_long.ensures c.args.call.now.seat table c.args.namings.now (g.T.HostTree.is c.args.tree.now) c.done.result c.at_once.result c.unlooked-refused.result c.refused.result
    c.if-is_too_long.true c.done.ensures c.at_once.ensures c.unlooked-refused.ensures c.refused.ensures.same

pub returns-in_err-tried-clause-err : goal.returns-in_err-tried-clause-err
returns-in_err-tried-clause-err g c = on-err c.from_residual-in_err-tried.result _ (called-more 1 _ _ _ _ c.in_err-tried.ensures.shown c.look-look.ensures.asks c.in_err-tried.ensures.err)

pub returns-clause-ok : goal.returns-clause-ok
returns-clause-ok g c = λ table temps.
    lookup-numbering c.args.call.now.request.now c.args.parent.now c.args.name.now temps c.is_too_long.result c.is_too_long.ensures c.args.call.now.seat table c.args.namings.now (g.T.HostTree.is c.args.tree.now) c.done-2.result c.look-look.result c.in_ok-tried.tried table c.found_behind.new.namings _ _
    c.if-is_too_long.false c.done-2.ensures c.look-look.ensures.asks c.look-look.ensures.looks (c.in_ok-tried.ensures.ok table)

pub returns-clause-unclocked : goal.returns-clause-unclocked
returns-clause-unclocked g c = unread-below c.in_ok-tried.tried c.done-2.result c.done-2.ensures c.in_ok-tried.ensures.call
