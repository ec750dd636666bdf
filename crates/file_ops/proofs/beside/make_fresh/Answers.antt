use Rattle.std.proofs.Common.{ap, true, ℕ, ◌∙◌}
use Rattle.portal_model.specs.Attributes.{attr_of_file, on_node}
use Rattle.portal_model.specs.Open.{file_handle}
use Rattle.file_ops.specs.Tries.{ended_of, freshened_at, tree_done}
use Rattle.file_ops.proofs.MadeBeside.{fresh-done, fresh-failed, fresh-missing}
use Rattle.portal_model.specs.declared.reply.NodeAnswer.TheVariants as NodeAnswer
use Rattle.file_ops.proofs.Tries.{on-err, wanted-memory}
use Rattle.file_ops.proofs.beside.make_fresh.Goals as goal

pub returns-in-Done-clause-ok : goal.returns-in-Done-clause-ok
returns-in-Done-clause-ok g c = λ has e.
    fresh-done c.args.call.now.request.now c.args.flags c.args.handles.now c.args.call.now.seat c.args.folder.now.view c.args.folder.now.document c.args.temp c.args.file c.now-now.result c.args.temps.now _ _ c.fresh.result c.requires.file c.requires.next c.fresh.ensures
    has c.add_temp-k.result c.attr_of_file-attr.result c.hand_out-fh.result c.file_handle.result c.of_call.result c.hand_out-fh.new.handles c.add_temp-k.new.temps (c.in_ok-came.ensures.ok ∙ ap tree_done c.in-Done.is) (c.add_temp-k.ensures.number has e)
    (c.attr_of_file-attr.ensures ∙ ap (λ (n : ℕ). attr_of_file (on_node c.args.call.now.request.now n) true 0 c.now-now.result) c.node_of-node.ensures.node) c.hand_out-fh.ensures.number (c.file_handle.ensures ∙ ap (λ (n : ℕ). file_handle c.args.folder.now.document c.args.file n c.args.flags) c.node_of-node.ensures.node)
    (c.of_call.ensures ∙ ap (λ came. ended_of (freshened_at c.now-now.result c.args.file.generation came) (NodeAnswer.Created c.attr_of_file-attr.result c.hand_out-fh.result)) c.in-Done.is) c.hand_out-fh.ensures.opens c.add_temp-k.ensures.temps c.add_temp-k.ensures.taken

pub returns-in-NotFile-clause-ok : goal.returns-in-NotFile-clause-ok
returns-in-NotFile-clause-ok g c = λ has e.
    fresh-missing c.args.call.now.request.now c.args.flags c.args.handles.now c.args.call.now.seat c.args.folder.now.view c.args.folder.now.document c.args.temp c.args.file c.now-now.result c.args.temps.now _ _ c.fresh.result c.requires.file c.requires.next c.fresh.ensures
    has c.of_call-in-NotFile.result (c.in_ok-came.ensures.ok ∙ ap tree_done c.in-NotFile.is) (c.of_call-in-NotFile.ensures ∙ ap (λ came. ended_of (freshened_at c.now-now.result c.args.file.generation came) NodeAnswer.Empty) c.in-NotFile.is)

pub returns-in-Failed-clause-ok : goal.returns-in-Failed-clause-ok
returns-in-Failed-clause-ok g c = λ has e.
    fresh-failed c.args.call.now.request.now c.args.flags c.args.handles.now c.args.call.now.seat c.args.folder.now.view c.args.folder.now.document c.args.temp c.args.file c.now-now.result c.args.temps.now _ _ c.fresh.result c.requires.file c.requires.next c.fresh.ensures
    has c.of_call-in-Failed.result (c.in_ok-came.ensures.ok ∙ ap tree_done c.in-Failed.is) (c.of_call-in-Failed.ensures ∙ ap (λ came. ended_of (freshened_at c.now-now.result c.args.file.generation came) NodeAnswer.Empty) c.in-Failed.is)

pub returns-in_err-came-clause-err : goal.returns-in_err-came-clause-err
returns-in_err-came-clause-err g c = on-err c.from_residual.result _ (wanted-memory _ _ c.fresh.result _ _ c.in_err-came.ensures.err c.fresh.ensures)
