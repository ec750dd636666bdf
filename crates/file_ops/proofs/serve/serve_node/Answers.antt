use Rattle.std.proofs.Common.{ℕ, List, ap, refl, subst, sym, ◌∙◌}
use Rattle.std.proofs.lemmas.Result.{IfOk-weaker, on_err_weaker}
use Rattle.portal_model.specs.declared.request.NodeOp.TheVariants as NodeOp
use Rattle.node_looks.specs.Done.{Forgets}
use Rattle.node_looks.specs.Served.{HasAt}
use Rattle.node_looks.specs.Sights.{naming_by, temp_by}
use Rattle.node_looks.proofs.DoneLemmas.{IsExact, tells-does}
use Rattle.file_ops.specs.OpenedFolders.{HasTemps}
use Rattle.file_ops.specs.SeatNames.{own_tables}
use Rattle.file_ops.proofs.DoesNames.{at-other, does-other, has-temps, known-names, known-temps, where-other}
use Rattle.file_ops.proofs.DoesSaving.{rename-does, unlink-does}
use Rattle.file_ops.proofs.Savings.{same-kept}
use Rattle.file_ops.specs.Wanting.{may_be_below}
use Rattle.file_ops.proofs.Tries.{called-so, looked-there, once-so, wants-so, wants-there}
use Rattle.file_ops.proofs.serve.serve_node.Goals as goal

pub returns-in-Lookup-clause-ok : goal.returns-in-Lookup-clause-ok
returns-in-Lookup-clause-ok g c = c.look_up.ensures.ok c.args.handles.now (c.in-Lookup.is ∙ ap NodeOp.Lookup (sym c.as_slice-name.ensures))

pub returns-in-Forget-clause-ok : goal.returns-in-Forget-clause-ok
returns-in-Forget-clause-ok g c = does-other c.args.book.now c.args.call.now c.args.handles.now (own_tables c.args.namings.now c.args.temps.now) (g.T.HostTree.is c.args.tree.now) _ _ _ _ c.in-Forget.is (λ sight. tt) (c.forget.ensures.done c.args.book.now c.args.call.now c.args.handles.now (g.T.HostTree.is c.args.tree.now) (subst Forgets (sym c.in-Forget.is) tt))

pub returns-in-BatchForget-clause-ok : goal.returns-in-BatchForget-clause-ok
returns-in-BatchForget-clause-ok g c = does-other c.args.book.now c.args.call.now c.args.handles.now (own_tables c.args.namings.now c.args.temps.now) (g.T.HostTree.is c.args.tree.now) _ _ _ _ c.in-BatchForget.is (λ sight. tt) (c.forget-in-BatchForget.ensures.done c.args.book.now c.args.call.now c.args.handles.now (g.T.HostTree.is c.args.tree.now) (subst Forgets (sym c.in-BatchForget.is) tt))

pub returns-in-Release-clause-ok : goal.returns-in-Release-clause-ok
returns-in-Release-clause-ok g c = does-other c.args.book.now c.args.call.now c.args.handles.now (own_tables c.args.namings.now c.args.temps.now) (g.T.HostTree.is c.args.tree.now) _ _ _ _ c.in-Release.is (λ sight. tt) (c.release.ensures.done c.in-Release.is c.args.book.now (g.T.HostTree.is c.args.tree.now))

pub returns-in-ReleaseDir-clause-ok : goal.returns-in-ReleaseDir-clause-ok
returns-in-ReleaseDir-clause-ok g c = does-other c.args.book.now c.args.call.now c.args.handles.now (own_tables c.args.namings.now c.args.temps.now) (g.T.HostTree.is c.args.tree.now) _ _ _ _ c.in-ReleaseDir.is (λ sight. tt) (c.release_dir.ensures.done c.in-ReleaseDir.is c.args.book.now (g.T.HostTree.is c.args.tree.now))

pub returns-in-Flush-clause-ok : goal.returns-in-Flush-clause-ok
returns-in-Flush-clause-ok g c = does-other c.args.book.now c.args.call.now c.args.handles.now (own_tables c.args.namings.now c.args.temps.now) (g.T.HostTree.is c.args.tree.now) _ _ _ _ c.in-Flush.is (λ sight. tt) (c.flush.ensures.done c.in-Flush.is c.args.book.now (g.T.HostTree.is c.args.tree.now))

pub returns-in-ReadDir-clause-ok : goal.returns-in-ReadDir-clause-ok
returns-in-ReadDir-clause-ok g c =
    IfOk-weaker c.read_dir.result _ _ (λ done h. does-other c.args.book.now c.args.call.now c.args.handles.now (own_tables c.args.namings.now c.args.temps.now) (g.T.HostTree.is c.args.tree.now) done _ _ _ c.in-ReadDir.is (λ sight. tt) h)
    (c.read_dir.ensures.done c.in-ReadDir.is c.args.book.now (g.T.HostTree.is c.args.tree.now))

pub returns-in-Fsync-clause-ok : goal.returns-in-Fsync-clause-ok
returns-in-Fsync-clause-ok g c =
    IfOk-weaker c.fsync.result _ _ (λ done h. does-other c.args.book.now c.args.call.now c.args.handles.now (own_tables c.args.namings.now c.args.temps.now) (g.T.HostTree.is c.args.tree.now) done _ _ _ c.in-Fsync.is (λ sight. tt) h) (c.fsync.ensures.ok c.in-Fsync.is c.args.book.now)

pub returns-in-Read-clause-ok : goal.returns-in-Read-clause-ok
returns-in-Read-clause-ok g c =
    IfOk-weaker c.read.result _ _ (λ done h. does-other c.args.book.now c.args.call.now c.args.handles.now (own_tables c.args.namings.now c.args.temps.now) (g.T.HostTree.is c.args.tree.now) done _ _ _ c.in-Read.is (λ sight. tt) h) (c.read.ensures.ok c.in-Read.is)

pub returns-in-Write-clause-ok : goal.returns-in-Write-clause-ok
returns-in-Write-clause-ok g c =
    IfOk-weaker c.write.result _ _ (λ done h. does-other c.args.book.now c.args.call.now c.args.handles.now (own_tables c.args.namings.now c.args.temps.now) (g.T.HostTree.is c.args.tree.now) done _ _ _ c.in-Write.is (λ sight. tt) h)
    (c.write.ensures.ok c.args.handles.now c.in-Write.fh (sym c.get-handle-in-Write.ensures.handle) (c.in-Write.is ∙ ap (NodeOp.Write c.in-Write.fh c.in-Write.offset) (sym c.as_slice.ensures)))

pub returns-in-GetAttr-clause-ok : goal.returns-in-GetAttr-clause-ok
returns-in-GetAttr-clause-ok g c =
    IfOk-weaker c.get_attr.result _ _
    (λ done h. at-other c.args.book.now c.args.call.now c.args.handles.now (own_tables c.args.namings.now c.args.temps.now) (g.T.HostTree.is c.args.tree.now) done _ _ _ c.in-GetAttr.is (λ sight. tt) (naming_by c.by_number-own.result) (temp_by c.by_number-own.result) c.by_number-own.ensures.naming c.by_number-own.ensures.temp h)
    (c.get_attr.ensures.ok c.in-GetAttr.is)

pub returns-in-SetAttr-clause-ok : goal.returns-in-SetAttr-clause-ok
returns-in-SetAttr-clause-ok g c =
    IfOk-weaker c.set_attr.result _ _
    (λ done h. at-other c.args.book.now c.args.call.now c.args.handles.now (own_tables c.args.namings.now c.args.temps.now) (g.T.HostTree.is c.args.tree.now) done _ _ _ c.in-SetAttr.is (λ sight. tt) (naming_by c.by_number-own-in-SetAttr.result) (temp_by c.by_number-own-in-SetAttr.result) c.by_number-own-in-SetAttr.ensures.naming c.by_number-own-in-SetAttr.ensures.temp h)
    (c.set_attr.ensures.ok c.args.handles.now c.in-SetAttr.fh (sym c.get-handle.ensures.handle) c.in-SetAttr.is)

pub returns-in-Open-clause-ok : goal.returns-in-Open-clause-ok
returns-in-Open-clause-ok g c =
    IfOk-weaker c.open.result _ _
    (λ done h. at-other c.args.book.now c.args.call.now c.args.handles.now (own_tables c.args.namings.now c.args.temps.now) (g.T.HostTree.is c.args.tree.now) done _ _ _ c.in-Open.is (λ sight. tt) (naming_by c.by_number-own-in-Open.result) (temp_by c.by_number-own-in-Open.result) c.by_number-own-in-Open.ensures.naming c.by_number-own-in-Open.ensures.temp h)
    (c.open.ensures.ok c.in-Open.is)

pub returns-in-OpenDir-clause-ok : goal.returns-in-OpenDir-clause-ok
returns-in-OpenDir-clause-ok g c =
    let seat = c.args.call.now.seat in
    let had = own_tables c.args.namings.now c.args.temps.now in
    let held = known-temps c.args.temps.now.seats seat c.requires.kept in
    let naming = naming_by c.by_number-own-in-OpenDir.result in
    let temp = temp_by c.by_number-own-in-OpenDir.result in
    IfOk-weaker c.open_dir.result _ _
    (λ done h. where-other c.args.book.now c.args.call.now c.args.handles.now had (g.T.HostTree.is c.args.tree.now) done c.open_dir.new.handles (g.T.HostTree.is c.open_dir.new.tree) _ c.in-OpenDir.is (λ sight. tt) (λ s. HasTemps c.args.call.now.request.now.node naming temp held.0.temps)
    (has-temps c.args.book.now c.args.call.now c.args.handles.now had (g.T.HostTree.is c.args.tree.now) done c.open_dir.new.handles (g.T.HostTree.is c.open_dir.new.tree) naming temp held.0 c.by_number-own-in-OpenDir.ensures.naming c.by_number-own-in-OpenDir.ensures.temp held.1) h)
    (c.open_dir.ensures.ok held.0 held.1 c.in-OpenDir.is)

pub returns-in-Access-clause-ok : goal.returns-in-Access-clause-ok
returns-in-Access-clause-ok g c =
    IfOk-weaker c.access.result _ _
    (λ done h. at-other c.args.book.now c.args.call.now c.args.handles.now (own_tables c.args.namings.now c.args.temps.now) (g.T.HostTree.is c.args.tree.now) done _ _ _ c.in-Access.is (λ sight. tt) (naming_by c.by_number-own-in-Access.result) (temp_by c.by_number-own-in-Access.result) c.by_number-own-in-Access.ensures.naming c.by_number-own-in-Access.ensures.temp
    (tells-does (HasAt c.args.call.now.request.now.node (naming_by c.by_number-own-in-Access.result) (temp_by c.by_number-own-in-Access.result)) c.args.book.now c.args.call.now c.args.handles.now (g.T.HostTree.is c.args.tree.now) done (g.T.HostTree.is c.access.new.tree) (subst IsExact (sym c.in-Access.is) tt) h))
    (c.access.ensures.ok c.in-Access.is)

pub returns-in-Create-clause-ok : goal.returns-in-Create-clause-ok
returns-in-Create-clause-ok g c = c.make_file.ensures.ok (c.in-Create.is ∙ ap (λ (name : List ℕ). NodeOp.Create name c.in-Create.flags) (sym c.as_slice-name-in-Create.ensures))

pub returns-in-Rename-clause-ok : goal.returns-in-Rename-clause-ok
returns-in-Rename-clause-ok g c =
    let seat = c.args.call.now.seat in
    let had = own_tables c.args.namings.now c.args.temps.now in
    let named = known-names c.args.namings.now seat c.requires.named in
    let held = known-temps c.args.temps.now.seats seat c.requires.kept in
    IfOk-weaker c.rename.result _ _
    (λ done h. rename-does c.args.book.now c.args.call.now c.args.handles.now had (g.T.HostTree.is c.args.tree.now) done c.rename.new.temps (g.T.HostTree.is c.rename.new.tree) named.0 held.0 named.1 held.1 c.in-Rename.new_parent c.in-Rename.flags c.as_slice-in-Rename.result.now c.as_slice-in-Rename-2.result.now
    (c.in-Rename.is ∙ (λ i. NodeOp.Rename c.in-Rename.new_parent c.in-Rename.flags (sym c.as_slice-in-Rename.ensures i) (sym c.as_slice-in-Rename-2.ensures i))) h)
    (c.rename.ensures.ok c.args.handles.now named.0 held.0 named.1 held.1)

pub returns-in-Unlink-clause-ok : goal.returns-in-Unlink-clause-ok
returns-in-Unlink-clause-ok g c =
    let seat = c.args.call.now.seat in
    let had = own_tables c.args.namings.now c.args.temps.now in
    let named = known-names c.args.namings.now seat c.requires.named in
    let held = known-temps c.args.temps.now.seats seat c.requires.kept in
    IfOk-weaker c.unlink.result _ _
    (λ done h. unlink-does c.args.book.now c.args.call.now c.args.handles.now had (g.T.HostTree.is c.args.tree.now) done c.unlink.new.temps (g.T.HostTree.is c.unlink.new.tree) named.0 held.0 named.1 held.1 c.as_slice-name-in-Unlink.result.now
    (c.in-Unlink.is ∙ ap NodeOp.Unlink (sym c.as_slice-name-in-Unlink.ensures)) h)
    (c.unlink.ensures.ok c.args.handles.now named.0 held.0 named.1 held.1)

pub returns-in-Rename-clause-err : goal.returns-in-Rename-clause-err
returns-in-Rename-clause-err g c =
    on_err_weaker c.rename.result (called-so (may_be_below c.args.call.now.request.now.node) _ _ c.args.handles.now _ _ c.in-Rename.is) c.rename.ensures.err

pub returns-in-Unlink-clause-temps_err : goal.returns-in-Unlink-clause-temps_err
returns-in-Unlink-clause-temps_err g c = on_err_weaker c.unlink.result (same-kept _ _) c.unlink.ensures.temps_err

pub returns-in-Lookup-clause-err : goal.returns-in-Lookup-clause-err
returns-in-Lookup-clause-err g c =
    looked-there c.look_up.result (may_be_below c.args.call.now.request.now.node) _ _ c.args.handles.now _ _ c.in-Lookup.is c.look_up.ensures.err
    (λ plain. on_err_weaker c.look_up.result (ap g.T.HostTree.is) (c.look_up.ensures.unasked plain))

pub returns-in-Fsync-clause-err : goal.returns-in-Fsync-clause-err
returns-in-Fsync-clause-err g c =
    on_err_weaker c.fsync.result (once-so (may_be_below c.args.call.now.request.now.node) _ _ c.args.handles.now _ _ c.in-Fsync.is refl) c.fsync.ensures.err

pub returns-in-Read-clause-err : goal.returns-in-Read-clause-err
returns-in-Read-clause-err g c =
    on_err_weaker c.read.result (once-so (may_be_below c.args.call.now.request.now.node) _ _ c.args.handles.now _ _ c.in-Read.is refl) c.read.ensures.err

pub returns-in-SetAttr-clause-err : goal.returns-in-SetAttr-clause-err
returns-in-SetAttr-clause-err g c =
    on_err_weaker c.set_attr.result (called-so (may_be_below c.args.call.now.request.now.node) _ _ c.args.handles.now _ _ c.in-SetAttr.is) c.set_attr.ensures.err

pub returns-in-Write-clause-err : goal.returns-in-Write-clause-err
returns-in-Write-clause-err g c =
    on_err_weaker c.write.result (called-so (may_be_below c.args.call.now.request.now.node) _ _ c.args.handles.now _ _ c.in-Write.is) c.write.ensures.err

pub returns-in-Open-clause-err : goal.returns-in-Open-clause-err
returns-in-Open-clause-err g c =
    on_err_weaker c.open.result (wants-so (may_be_below c.args.call.now.request.now.node) _ _ c.args.handles.now _ _ _ c.in-Open.is) c.open.ensures.err

pub returns-in-Create-clause-err : goal.returns-in-Create-clause-err
returns-in-Create-clause-err g c =
    wants-there c.make_file.result (may_be_below c.args.call.now.request.now.node) _ _ c.args.handles.now _ _ _ c.in-Create.is c.make_file.ensures.err c.make_file.ensures.plain_err

pub returns-in-OpenDir-clause-err : goal.returns-in-OpenDir-clause-err
returns-in-OpenDir-clause-err g c =
    wants-there c.open_dir.result (may_be_below c.args.call.now.request.now.node) _ _ c.args.handles.now _ _ _ c.in-OpenDir.is c.open_dir.ensures.err c.open_dir.ensures.plain_err
