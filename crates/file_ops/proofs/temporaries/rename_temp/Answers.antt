use Rattle.std.proofs.Common.{List, ℕ, ap, subst, sym}
use Rattle.portal_base.specs.declared.names.doc_id.DocId.{DocId}
use Rattle.save_files.specs.Own.{AtSeat, Both, Own, RemovesOthers}
use Rattle.file_ops.specs.SeatTemps.{temps_on}
use Rattle.file_ops.proofs.OwnSeats.{renames-temped}
use Rattle.file_ops.proofs.Tries.{on-err}
use Rattle.file_ops.proofs.temporaries.rename_temp.Goals as goal

pub returns-clause-ok : goal.returns-clause-ok
returns-clause-ok c = λ temp v d.
    let mid = c.rename.new.self.seats in
    let new = c.remove_others.new.self.seats in
    renames-temped c.args.k temp c.args.name.now c.args.temps.now c.rename.new.self c.remove_others.new.self c.args.seat c.get.ensures.known c.in_ok-rename.ensures.ok
    (subst (λ (view : ℕ). AtSeat (Both (RemovesOthers c.args.k view temp.document.number c.args.name.now)) mid new c.args.seat) (sym v)
    (subst (λ (id : DocId). AtSeat (Both (RemovesOthers c.args.k c.args.view id.number c.args.name.now)) mid new c.args.seat) (sym d) c.remove_others.ensures.rest))

pub returns-in_err-rename-clause-err : goal.returns-in_err-rename-clause-err
returns-in_err-rename-clause-err c =
    on-err c.from_residual.result _ ((λ q. ap (λ (seats : List (ℕ × Own)). temps_on seats q) c.in_err-rename.ensures.err), c.rename.ensures.taken)
