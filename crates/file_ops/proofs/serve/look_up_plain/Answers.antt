use Rattle.std.proofs.Common.{subst, sym, Some, ◌≡◌}
use Rattle.std.proofs.lemmas.Result.{IfOk-weaker}
use Rattle.save_files.specs.Tables.{TempTable}
use Rattle.node_looks.specs.OwnFiles.{HasFound}
use Rattle.node_looks.specs.Sights.{naming_by, temp_by}
use Rattle.node_looks.proofs.DoneLemmas.{IsExact, tells-does}
use Rattle.file_ops.specs.SeatTemps.{held_of, temps_on}
use Rattle.file_ops.proofs.DoesNames.{has-at, looks-up-quietly, sees-so, where-plain}
use Rattle.file_ops.proofs.SettledOwn.{seat-temps}
use Rattle.file_ops.proofs.serve.look_up_plain.Goals as goal

pub returns-clause-ok : goal.returns-clause-ok
returns-clause-ok g c = λ table tables same named temped op.
    let book = c.args.book.now in
    let call = c.args.call.now in
    let old = g.T.HostTree.is c.args.tree.now in
    let new = g.T.HostTree.is c.lookup.new.tree in
    let naming = naming_by c.args.own in
    let temp = temp_by c.args.own in
    IfOk-weaker c.lookup.result _ _
    (λ done tells.
    where-plain book call table tables old done table new (λ s. HasFound call.request.now.node naming temp c.args.place c.own_file-file.result c.args.name.now)
    (λ s k a n. record {
      at = has-at book call table tables old done table new naming temp named temped s k a n;
      found = c.own_file-file.ensures (held_of k) (subst (λ (t : TempTable). temps_on t.seats call.seat ≡ Some (held_of k)) same (seat-temps s k call.seat tables.temps n.temps a.here));
    })
    (λ s k a n. looks-up-quietly book.view call.who.now c.args.place _ call.request.now.op c.args.name.now op (sees-so book call table tables old done table new c.args.own c.args.place named temped c.requires.sight s k a n) c.requires.plain)
    (tells-does (HasFound call.request.now.node naming temp c.args.place c.own_file-file.result c.args.name.now) book call table old done new (subst IsExact (sym op) tt) tells))
    (c.lookup.ensures.ok naming temp c.requires.sight op)
