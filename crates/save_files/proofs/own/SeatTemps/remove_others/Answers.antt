use Rattle.std.proofs.Common.{ℕ, List, not, subst, sym}
use Rattle.portal_model.specs.declared.temporary.Temp.{Temp}
use Rattle.save_files.specs.Own.{AreNumbered, is_other}
use Rattle.save_files.proofs.OwnLemmas.{numbered-filtered}
use Rattle.save_files.proofs.own.SeatTemps.remove_others.Goals as goal

pub invariant_of-self : goal.invariant_of-self
invariant_of-self c =
    subst (λ (es : List (ℕ × Temp)). AreNumbered c.self.inside.added es) (sym c.take_others.ensures.temps)
    (numbered-filtered (λ e. not (is_other c.args.k c.args.view c.args.document.number c.args.name.now e)) c.self.inside.added _ c.self.invariant)
