use Rattle.std.proofs.Common.{ap, not, refl, subst, sym}
use Rattle.std.proofs.lemmas.Result.{IfOk-weaker}
use Rattle.portal_model.specs.Create.{create_own}
use Rattle.node_looks.specs.Done.{room_in}
use Rattle.file_ops.specs.Creates.{Opening}
use Rattle.file_ops.specs.Tries.{done_of_tried}
use Rattle.node_looks.specs.declared.served.NodeDone.{NodeDone}
use Rattle.file_ops.proofs.Creates.{own-full, own-opening}
use Rattle.file_ops.proofs.Savings.{refused-done}
use Rattle.file_ops.proofs.created.make_own.Goals as goal

pub returns-then-not-branch-clause-ok : goal.returns-then-not-branch-clause-ok
returns-then-not-branch-clause-ok g c =
    let f = c.args.folder.now in
    subst (λ (d : NodeDone). Opening (create_own c.args.call.now.request.now c.args.flags (room_in c.args.handles.now c.args.call.now.seat) f.view f.document f.may_write) c.args.call.now.seat c.args.handles.now (g.T.HostTree.is c.args.tree.now) d c.take_room.new.handles (g.T.HostTree.is c.args.tree.now))
    (sym (refused-done _ (done_of_tried c.unlooked-then-not-branch.result) c.unlooked-then-not-branch.result c.refused-then-not-branch.result refl c.unlooked-then-not-branch.ensures c.refused-then-not-branch.ensures.same))
    (own-full c.args.call.now.request.now c.args.flags c.args.call.now.seat c.args.handles.now c.take_room.new.handles f.view f.document f.may_write _ c.in_ok-take_room.field-0 (ap not c.if-not-folder.false) c.take_room.ensures.kept c.in_ok-take_room.ensures.full (ap not c.if-not-branch.true))

pub returns-clause-ok : goal.returns-clause-ok
returns-clause-ok g c =
    let f = c.args.folder.now in
    IfOk-weaker c.make_new.result _ _
    (λ tried o. own-opening c.args.call.now.request.now c.args.flags c.args.call.now.seat c.args.handles.now c.take_room.new.handles c.make_new.new.handles f.view f.document f.may_write _ (done_of_tried tried) _ c.in_ok-take_room.field-0
    (ap not c.if-not-folder.false) c.take_room.ensures.kept c.in_ok-take_room.ensures.full (ap not c.if-not-branch.false) o)
    c.make_new.ensures.ok
