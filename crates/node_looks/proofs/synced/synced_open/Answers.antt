use Rattle.std.proofs.Common.{ap, sym, subst, IfOk, Some}
use Rattle.portal_model.specs.declared.handle.Handle.{Handle}
use Rattle.portal_model.specs.Fsync.{fsync}
use Rattle.node_looks.specs.Walks.{Follows}
use Rattle.node_looks.proofs.OpenFiles.{with-handle}
use Rattle.node_looks.proofs.synced.synced_open.Goals as goal

pub returns-in-File-clause-ok : goal.returns-in-File-clause-ok
returns-in-File-clause-ok g c =
    subst (λ (h : Handle). IfOk c.synced_file.result (λ asked. Follows (fsync (Some h)) (g.T.HostTree.is c.args.tree.now) asked (g.T.HostTree.is c.synced_file.new.tree)))
    (sym c.in-File.is) c.synced_file.ensures.ok

pub returns-in-Folder-clause-ok : goal.returns-in-Folder-clause-ok
returns-in-Folder-clause-ok g c = with-handle fsync _ _ _ _ _ (ap (λ (h : Handle). Some h) c.in-Folder.is) (c.refused.ensures _)
