use Rattle.std.proofs.Common.{◌∙◌, ap}
use Rattle.portal_model.specs.declared.reply.NodeAnswer.TheVariants as NodeAnswer
use Rattle.file_ops.specs.Tries.{ended_by, tree_done}
use Rattle.file_ops.specs.declared.tried.Came.{Came}
use Rattle.file_ops.proofs.ChildWalks.{child-done, child-failed, child-missing}
use Rattle.file_ops.proofs.Tries.{on-err, wanted-memory}
use Rattle.file_ops.proofs.children.made_file.Goals as goal

pub returns-in-NotFile-clause-ok : goal.returns-in-NotFile-clause-ok
returns-in-NotFile-clause-ok g c = λ has e.
    child-missing c.args.call.now.request.now c.args.flags c.args.handles.now c.args.call.now.seat c.args.parent.now c.args.naming has c.args.namings.now c.args.file c.now-now.result _ _ c.create.result c.requires.first c.requires.missing c.create.ensures c.missing.result
    (c.in_ok-came.ensures.ok ∙ ap tree_done c.in-NotFile.is) c.missing.ensures

pub returns-in-Failed-clause-ok : goal.returns-in-Failed-clause-ok
returns-in-Failed-clause-ok g c = λ has e.
    child-failed c.args.call.now.request.now c.args.flags c.args.handles.now c.args.call.now.seat c.args.parent.now c.args.naming has c.args.namings.now c.args.file c.now-now.result _ _ c.create.result c.requires.first c.requires.missing c.create.ensures c.failed.result
    (c.in_ok-came.ensures.ok ∙ ap tree_done c.in-Failed.is) c.failed.ensures

pub returns-in_err-came-clause-err : goal.returns-in_err-came-clause-err
returns-in_err-came-clause-err g c = on-err c.from_residual.result _ (wanted-memory _ _ c.create.result _ _ c.in_err-came.ensures.err c.create.ensures)

pub returns-in-Done-clause-ok : goal.returns-in-Done-clause-ok
returns-in-Done-clause-ok g c = λ has e.
    child-done c.args.call.now.request.now c.args.flags c.args.handles.now c.args.call.now.seat c.args.parent.now c.args.naming has c.args.namings.now c.args.file c.now-now.result _ _ c.create.result c.requires.first c.requires.missing c.create.ensures
    c.give_number-node.result c.attr_of_file-attr.result c.hand_out-fh.result c.file_handle.result c.by_call.result c.hand_out-fh.new.handles c.give_number-node.new.namings
    (c.in_ok-came.ensures.ok ∙ ap tree_done c.in-Done.is) (c.give_number-node.ensures.node has e) c.attr_of_file-attr.ensures c.hand_out-fh.ensures.number c.file_handle.ensures (c.by_call.ensures ∙ ap (λ (x : Came). ended_by c.now-now.result x (NodeAnswer.Created c.attr_of_file-attr.result c.hand_out-fh.result)) c.in-Done.is) c.hand_out-fh.ensures.opens c.give_number-node.ensures.names
