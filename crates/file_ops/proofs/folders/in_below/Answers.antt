use Rattle.std.proofs.Common.{subst}
use Rattle.std.proofs.lemmas.Result.{IfOk-weaker, on_err_weaker}
use Rattle.host_tree.specs.Trees.{Looks as Answered}
use Rattle.host_tree.specs.declared.tree.LookAnswer.TheVariants as look
use Rattle.portal_base.specs.declared.files.Look.{Look}
use Rattle.portal_model.specs.NodeVerdict.{spot}
use Rattle.file_ops.proofs.OpenedDirs.{opened-first, wants-first}
use Rattle.file_ops.proofs.folders.in_below.Goals as goal

pub returns-in-Is-Folder-clause-ok : goal.returns-in-Is-Folder-clause-ok
returns-in-Is-Folder-clause-ok g c = λ temps.
    IfOk-weaker c.opened_below.result _ _
    (λ done o. opened-first c.args.call.now.request.now c.args.view (spot c.args.below.seen.document.now c.args.below.path.now c.args.below.seen.may_write) temps c.args.call.now.seat c.args.handles.now _ _ _ _ done
    (rw c.in-Is-Folder.is at c.look-look.ensures.asks)
    (subst (λ (shown : Look). Answered (g.T.HostTree.is c.args.tree.now).told c.args.below.path.now (look.Is shown)) (rw c.in-Is-Folder.is at c.in-Is-Folder.field-0-is) (rw c.in-Is-Folder.is at c.look-look.ensures.looks)) o) (c.opened_below.ensures.ok temps)

pub returns-in-Is-Folder-clause-err : goal.returns-in-Is-Folder-clause-err
returns-in-Is-Folder-clause-err g c =
    on_err_weaker c.opened_below.result (wants-first c.args.handles.now _ _ c.opened_below.new.handles _ (rw c.in-Is-Folder.is at c.look-look.ensures.asks)) c.opened_below.ensures.err
