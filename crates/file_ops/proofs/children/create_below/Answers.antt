use Rattle.node_looks.specs.Done.{room_in}
use Rattle.file_ops.proofs.ChildWalks.{create-long, create-none, create-numbering, reads-below}
use Rattle.file_ops.proofs.Tries.{called-more, on-err}
use Rattle.file_ops.proofs.children.create_below.Goals as goal

pub returns-then-has_no_mode-clause-ok : goal.returns-then-has_no_mode-clause-ok
returns-then-has_no_mode-clause-ok g c = λ temps.
    create-none c.args.call.now.request.now c.args.parent.now c.args.name.now c.args.flags (room_in c.args.handles.now c.args.call.now.seat) temps c.has_no_mode.result c.has_no_mode.ensures c.args.call.now.seat c.args.handles.now c.args.namings.now (g.T.HostTree.is c.args.tree.now)
    c.done.result c.at_once.result c.unlooked-refused.result c.refused.result c.if-has_no_mode.true c.done.ensures c.at_once.ensures c.unlooked-refused.ensures c.refused.ensures.same

pub returns-then-is_too_long-clause-ok : goal.returns-then-is_too_long-clause-ok
returns-then-is_too_long-clause-ok g c = λ temps.
    create-long c.args.call.now.request.now c.args.parent.now c.args.name.now c.args.flags (room_in c.args.handles.now c.args.call.now.seat) temps c.has_no_mode.result c.has_no_mode.ensures c.args.call.now.seat c.args.handles.now c.args.namings.now (g.T.HostTree.is c.args.tree.now) c.done-then-is_too_long.result
    c.if-has_no_mode.false c.is_too_long.result c.is_too_long.ensures c.at_once-then-is_too_long.result c.unlooked-refused-then-is_too_long.result c.refused-then-is_too_long.result c.if-is_too_long.true c.done-then-is_too_long.ensures c.at_once-then-is_too_long.ensures c.unlooked-refused-then-is_too_long.ensures c.refused-then-is_too_long.ensures.same

pub returns-in_err-tried-clause-err : goal.returns-in_err-tried-clause-err
returns-in_err-tried-clause-err g c = on-err c.from_residual-in_err-tried.result _ (called-more 2 _ _ _ _ c.in_err-tried.ensures.shown c.look-look.ensures.asks c.in_err-tried.ensures.err)

pub returns-clause-ok : goal.returns-clause-ok
returns-clause-ok g c = λ temps.
    create-numbering c.args.call.now.request.now c.args.parent.now c.args.name.now c.args.flags (room_in c.args.handles.now c.args.call.now.seat) temps c.has_no_mode.result c.has_no_mode.ensures c.args.call.now.seat c.args.handles.now c.args.namings.now (g.T.HostTree.is c.args.tree.now) c.done-2.result
    c.if-has_no_mode.false c.is_too_long.result c.is_too_long.ensures c.look-look.result c.in_ok-tried.tried c.made_behind.new.handles c.made_behind.new.namings _ _
    c.if-is_too_long.false c.done-2.ensures c.look-look.ensures.asks c.look-look.ensures.looks c.in_ok-tried.ensures.ok

pub returns-clause-clock : goal.returns-clause-clock
returns-clause-clock g c = reads-below g.C.Clock.reads _ _ c.in_ok-tried.tried c.done-2.result c.done-2.ensures c.in_ok-tried.ensures.clock
