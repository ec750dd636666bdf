use Rattle.file_ops.proofs.ChildWalks.{full-entry, given-entry, named-still}
use Rattle.file_ops.proofs.children.entry.Goals as goal

pub returns-then-not-branch-clause-ok : goal.returns-then-not-branch-clause-ok
returns-then-not-branch-clause-ok c = λ table tree has e.
    full-entry c.args.call.now.request.now c.args.parent.now c.args.path has c.args.shown c.requires.there c.args.call.now.seat table c.args.namings.now tree c.refused.result _ (c.in_ok-take_number.ensures.full has e)
    c.take_number.new.namings c.if-not-branch.true c.refused.ensures.same c.take_number.ensures.kept

pub returns-clause-ok : goal.returns-clause-ok
returns-clause-ok c = λ table tree has e.
    given-entry c.args.call.now.request.now c.args.parent.now c.args.path has c.args.shown c.requires.there c.args.call.now.seat table c.args.namings.now tree c.told.result _ (c.in_ok-take_number.ensures.full has e)
    c.take_number.new.namings c.give_number-node.new.namings c.give_number-node.result c.attr_shown-attr.result c.if-not-branch.false
    (c.give_number-node.ensures.node has (named-still c.args.call.now.seat c.args.namings.now c.take_number.new.namings has c.take_number.ensures.kept e)) c.attr_shown-attr.ensures c.told.ensures.same
    c.take_number.ensures.kept c.give_number-node.ensures.names
