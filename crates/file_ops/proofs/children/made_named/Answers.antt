use Rattle.std.proofs.Common.{ap, not, ◌∙◌}
use Rattle.file_ops.proofs.ChildWalks.{named-made}
use Rattle.file_ops.proofs.Tries.{called-more, on-err}
use Rattle.file_ops.proofs.children.made_named.Goals as goal

pub returns-in_err-ended-clause-err : goal.returns-in_err-ended-clause-err
returns-in_err-ended-clause-err g c = on-err c.from_residual-in_err-ended.result _ (called-more 1 _ _ _ _ c.in_err-ended.ensures.shown c.look-look.ensures.asks c.in_err-ended.ensures.err)

pub returns-clause-ok : goal.returns-clause-ok
returns-clause-ok g c =
    named-made c.args.call.now.request.now c.args.flags c.args.parent.now c.args.naming c.requires.writes c.args.call.now.seat c.args.handles.now c.take_room.new.handles c.take_room.ensures.kept c.args.namings.now (g.T.HostTree.is c.args.tree.now)
    (c.in_ok-take_room.ensures.full ∙ ap not c.if-not-branch.false) c.take_number.new.namings c.take_number.ensures.kept _ c.in_ok-take_number.ensures.full
    c.look-look.result c.in_ok-ended.ended c.made_looked.new.handles c.made_looked.new.namings _ _ c.if-not-branch-2.false c.look-look.ensures.asks c.look-look.ensures.looks c.in_ok-ended.ensures.ok
